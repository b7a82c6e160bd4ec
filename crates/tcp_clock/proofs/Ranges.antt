-- Each rule keeps a timeout and a window in range.
use Rattle.std.proofs.Common.{ℕ, ◌≤◌, ◌^◌, arith}
use Rattle.tcp_clock.specs.Retransmission.{Timeout, IsTimeout, first_timeout, sampled, backed_off}
use Rattle.tcp_clock.specs.Congestion.{Window, IsWindow, first_window, grown, third_duplicate, timed_out, timed_out_again}

pub first_timeout_ranged : (f : ℕ) → 1 ≤ f → f ≤ 10 ^ 12 → IsTimeout (first_timeout f)
unfolding first_timeout
first_timeout_ranged f some most =
    record { some_frequency = some; most_frequency = most; least = omega arith; most = omega arith }

pub sampled_ranged : (t : Timeout) (r : ℕ) → IsTimeout t → IsTimeout (sampled t r)
unfolding sampled
sampled_ranged t r is = record { some_frequency = is.some_frequency; most_frequency = is.most_frequency; least = grind arith; most = grind arith }

pub backed_off_ranged : (t : Timeout) → IsTimeout t → IsTimeout (backed_off t)
unfolding backed_off
backed_off_ranged t is =
    let least = is.least in
    let most = is.most in
    record { some_frequency = is.some_frequency; most_frequency = is.most_frequency; least = omega arith; most = omega arith }

pub first_window_ranged : (mss threshold : ℕ) → 1 ≤ mss → mss ≤ 65495 → IsWindow (first_window mss threshold)
unfolding first_window
first_window_ranged mss threshold some most = record { some_mss = some; most_mss = most; some = some; most = omega (arith, most) }

pub grown_ranged : (w : Window) (n : ℕ) → IsWindow w → IsWindow (grown w n)
unfolding grown
grown_ranged w n is =
    let some = is.some in
    record { some_mss = is.some_mss; most_mss = is.most_mss; some = omega arith; most = omega arith }

pub third_duplicate_ranged : (w : Window) (flight : ℕ) → flight ≤ 2 ^ 64 → IsWindow w → IsWindow (third_duplicate w flight)
unfolding third_duplicate
third_duplicate_ranged w flight most is =
    let some = is.some_mss in
    let below = is.most_mss in
    record { some_mss = some; most_mss = below; some = omega arith; most = omega arith }

pub timed_out_ranged : (w : Window) (flight : ℕ) → IsWindow w → IsWindow (timed_out w flight)
unfolding timed_out
timed_out_ranged w flight is =
    let below = is.most_mss in
    record { some_mss = is.some_mss; most_mss = below; some = is.some_mss; most = omega arith }

pub timed_out_again_ranged : (w : Window) → IsWindow w → IsWindow (timed_out_again w)
unfolding timed_out_again
timed_out_again_ranged w is =
    let below = is.most_mss in
    record { some_mss = is.some_mss; most_mss = below; some = is.some_mss; most = omega arith }
