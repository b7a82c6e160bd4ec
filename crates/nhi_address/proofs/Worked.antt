-- The definitions on worked texts.
use Rattle.std.specs.Prelude.{◌≡◌, [], ◌∷◌, Some, None, codes}
use Rattle.std.proofs.Common.{refl}
use Rattle.nhi_address.specs.NhiText.{nhi_of}

zero_is_a_host : nhi_of (codes "0") ≡ Some (record { ids = 0 ∷ []; interface = None })
zero_is_a_host = refl

nested : nhi_of (codes "1:2:0(1)") ≡ Some (record { ids = 1 ∷ 2 ∷ 0 ∷ []; interface = Some 1 })
nested = refl

with_interface : nhi_of (codes "3(0)") ≡ Some (record { ids = 3 ∷ []; interface = Some 0 })
with_interface = refl

greatest : nhi_of (codes "2147483647") ≡ Some (record { ids = 2147483647 ∷ []; interface = None })
greatest = refl

empty : nhi_of (codes "") ≡ None
empty = refl

no_id : nhi_of (codes "1::2") ≡ None
no_id = refl

no_host : nhi_of (codes "(0)") ≡ None
no_host = refl

only_open : nhi_of (codes "1(") ≡ None
only_open = refl

more : nhi_of (codes "1(0)x") ≡ None
more = refl

above : nhi_of (codes "2147483648") ≡ None
above = refl

eleven_digits : nhi_of (codes "00000000001") ≡ None
eleven_digits = refl
