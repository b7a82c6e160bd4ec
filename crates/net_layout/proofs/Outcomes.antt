-- The first fault, by what is found.
use Rattle.std.proofs.Common.{◌≡◌, true, false, Some, None, refl}
use Rattle.std.specs.Prelude.{codes}
use Rattle.net_graph.specs.declared.rows.Network.{Network}
use Rattle.net_graph.specs.declared.fault.ShapeFault.TheVariants.{TooMany, NoSpace, DelayTooLong, TooManyChannels}
use Rattle.net_layout.specs.Faults.{has_many_transfers, has_many_routes, has_no_space, has_long_delay, has_many_channels, first_fault}

pub at_transfers : (n : Network) → has_many_transfers n ≡ true → first_fault n ≡ Some (TooMany (codes "transfers"))
at_transfers n t = rw t refl

pub at_routes : (n : Network) → has_many_transfers n ≡ false → has_many_routes n ≡ true → first_fault n ≡ Some (TooMany (codes "routes"))
at_routes n t r = rw t (rw r refl)

pub at_space : (n : Network) → has_many_transfers n ≡ false → has_many_routes n ≡ false → has_no_space n ≡ true → first_fault n ≡ Some NoSpace
at_space n t r s = rw t (rw r (rw s refl))

pub at_delay : (n : Network) → has_many_transfers n ≡ false → has_many_routes n ≡ false → has_no_space n ≡ false → has_long_delay n ≡ true → first_fault n ≡ Some DelayTooLong
at_delay n t r s d = rw t (rw r (rw s (rw d refl)))

pub at_channels : (n : Network) → has_many_transfers n ≡ false → has_many_routes n ≡ false → has_no_space n ≡ false → has_long_delay n ≡ false → has_many_channels n ≡ true → first_fault n ≡ Some TooManyChannels
at_channels n t r s d c = rw t (rw r (rw s (rw d (rw c refl))))

pub no_fault : (n : Network) → has_many_transfers n ≡ false → has_many_routes n ≡ false → has_no_space n ≡ false → has_long_delay n ≡ false → has_many_channels n ≡ false → first_fault n ≡ None
no_fault n t r s d c = rw t (rw r (rw s (rw d (rw c refl))))
