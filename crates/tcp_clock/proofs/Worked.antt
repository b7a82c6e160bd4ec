-- Worked rows of the timeout, at 10^9 ticks a second, and of the window, at segments of 1,000 bytes.
use Rattle.std.proofs.Common.{◌≡◌, ℕ, Some, refl}
use Rattle.tcp_clock.specs.Retransmission.{Timeout, first_timeout, sampled, backed_off}
use Rattle.tcp_clock.specs.Congestion.{Window, first_window, grown, third_duplicate, timed_out, timed_out_again}

abbrev timeout : ℕ → ℕ → ℕ → Timeout
timeout value srtt rttvar =
    record { frequency = 1000000000; value = value; smoothed = Some (record { srtt = srtt; rttvar = rttvar }) }

first_sample : sampled (first_timeout 1000000000) 200000000 ≡ timeout 1000000000 200000000 100000000
unfolding first_timeout sampled
first_sample = refl

second_sample : sampled (timeout 1000000000 200000000 100000000) 300000000 ≡ timeout 1000000000 212500000 100000000
unfolding sampled
second_sample = refl

doubled : backed_off (timeout 1000000000 212500000 100000000) ≡ timeout 2000000000 212500000 100000000
unfolding backed_off
doubled = refl

abbrev window : ℕ → ℕ → Window
window threshold size = record { mss = 1000; threshold = threshold; size = size }

begun : first_window 1000 8000 ≡ window 8000 1000
unfolding first_window
begun = refl

slow : grown (window 8000 1000) 1000 ≡ window 8000 2000
unfolding grown
slow = refl

duplicates : third_duplicate (window 8000 2000) 9000 ≡ window 4500 4500
unfolding third_duplicate
duplicates = refl

avoiding : grown (window 4500 4500) 1000 ≡ window 4500 4722
unfolding grown
avoiding = refl

first_loss : timed_out (window 4500 4722) 3000 ≡ window 2000 1000
unfolding timed_out
first_loss = refl

later_loss : timed_out_again (window 2000 2000) ≡ window 2000 1000
unfolding timed_out_again
later_loss = refl
