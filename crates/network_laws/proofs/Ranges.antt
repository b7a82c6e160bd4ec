-- What the readers of keys answer lies in its range.
use Rattle.std.proofs.Common.{◌≡◌, ℕ, ◌+◌, ◌*◌, ◌/◌, ◌^◌, ◌<◌, ◌≤◌, Bool, true, false, ◌&&◌, ◌||◌, nat_eq, nat_le, nat_lt, List, [], ◌∷◌, length, Option, Some, None, Ok, Err, IfOk, refl, arith, codes, ◌++◌}
use Rattle.std.specs.Prelude.{if◌then◌else◌, All}
use Rattle.std.specs.List.{before_first, after_first}
use Rattle.std.specs.Str.Parse.{digits_value}
use Rattle.std.proofs.lemmas.Bool.{leb-true, ltb-true}
use Rattle.std.proofs.lemmas.List.Elements.{All-nil, All-cons}
use Rattle.dml_tree.specs.declared.tree.Attribute.{Attribute}
use Rattle.dml_tree.specs.declared.tree.Value.{Value}
use Rattle.dml_tree.specs.declared.tree.Value.TheVariants as value
use Rattle.dml_tree.specs.Attributes.{Attributes}
use Rattle.dml_tree.specs.TreeView.{attributes}
use Rattle.nhi_address.specs.Number.{is_numeral}
use Rattle.nhi_address.specs.NhiFields.{NhiFields}
use Rattle.nhi_address.specs.declared.nhi.IdRange.{IdRange}
use Rattle.net_graph.specs.declared.fault.ShapeFault.{ShapeFault}
use Rattle.net_graph.specs.declared.fault.ShapeFault.TheVariants.{BadNumber, Missing}
use Rattle.net_graph.specs.declared.rows.Down.{Down}
use Rattle.net_graph.specs.declared.list_keys.InterfaceKeys.{InterfaceKeys}
use Rattle.net_graph.specs.declared.list_keys.LinkKeys.{LinkKeys}
use Rattle.net_graph.specs.declared.list_keys.ServerKeys.{ServerKeys}
use Rattle.net_graph.specs.declared.list_keys.SessionKeys.{SessionKeys}
use Rattle.net_graph.specs.declared.list_keys.SessionKeys.TheVariants as session
use Rattle.net_graph.specs.Keys.{lists_of, first_of, number_of_value, values_of}
use Rattle.net_graph.specs.Reads.{Read, then_read, read_or, ok_or}
use Rattle.net_graph.specs.ListKeys.{first_value_of, is_text, number_at, seconds_of_value, seconds_at, id_number, ordered_range, range_of, range_or, id_or, ids_at, ends_of, interface_keys, some_attached, attached_each, down_of, ordered_down, numbered_down, downs_from, link_keys, client_keys, transport_of, default_tcp, tcp_keys, tcp_at, session_named, session_keys, text_or_missing, port_of, server_keys, server_nhi, frequency_of}
use Rattle.sim_base.specs.Traffic.{IsTcp, IsClient}

-- what is read, where anything is
pub then_if : {A B : Type 0} (P : A → Type 0) (Q : B → Type 0) (r : Read A) (next : A → Read B) → IfOk r P → ((a : A) → P a → IfOk (next a) Q) → IfOk (then_read r next) Q
then_if P Q (Ok a) next h g = g a h
then_if P Q (Err fault) next h g = tt

-- what is read of something of which nothing is wanted
pub then_any : {A B : Type 0} (Q : B → Type 0) (r : Read A) (next : A → Read B) → ((a : A) → IfOk (next a) Q) → IfOk (then_read r next) Q
then_any Q (Ok a) next g = g a
then_any Q (Err fault) next g = tt

-- a test passes, and else there is a fault
passed : {A : Type 0} (P : A → Type 0) (b : Bool) (a : A) (fault : ShapeFault) → (b ≡ true → P a) → IfOk (let r : Read A = if b then Ok a else Err fault in r) P
passed P true a fault h = h refl
passed P false a fault h = tt

and_left : (a b : Bool) → a && b ≡ true → a ≡ true
and_left true b e = refl
and_left false b e = cc

and_right : (a b : Bool) → a && b ≡ true → b ≡ true
and_right true b e = e
and_right false b e = cc

-- from least on, and below end
abbrev pub InRange : ℕ → ℕ → ℕ → Type 0
InRange least end n = (least ≤ n) × (n < end)

in_range : (least end n : ℕ) (a : Bool) → (a && nat_le least n) && nat_lt n end ≡ true → InRange least end n
in_range least end n a e =
    let both = and_left (a && nat_le least n) (nat_lt n end) e in
    (leb-true least n (and_right a (nat_le least n) both), ltb-true n end (and_right (a && nat_le least n) (nat_lt n end) e))

value_if : (key : List ℕ) (least end : ℕ) (v : Value) → IfOk (number_of_value key least end v) (InRange least end)
value_if key least end (value.Plain text) =
    passed (InRange least end) (is_numeral 18 text && nat_le least (digits_value 10 text) && nat_lt (digits_value 10 text) end) (digits_value 10 text) (BadNumber key)
    (in_range least end (digits_value 10 text) (is_numeral 18 text))
value_if key least end (value.List inner) = tt

read_or_if : {A B : Type 0} (P : B → Type 0) (absent : Read B) (f : A → Read B) (o : Option A) → IfOk absent P → ((x : A) → IfOk (f x) P) → IfOk (read_or absent f o) P
read_or_if P absent f None h g = h
read_or_if P absent f (Some x) h g = g x

pub number_if : (key : List ℕ) (least end : ℕ) (absent : Read ℕ) (xs : List Attribute) → IfOk absent (InRange least end) → IfOk (number_at key least end absent xs) (InRange least end)
number_if key least end absent xs h = read_or_if (InRange least end) absent (number_of_value key least end) (first_value_of key xs) h (value_if key least end)

-- seconds are at most 10^18 ticks
abbrev pub IsTime : ℕ → Type 0
IsTime n = n ≤ 10 ^ 18

ticks_if : (fault : ShapeFault) (a : Bool) (n : ℕ) (b : Bool) → nat_le n 1000000000000000000 ≡ b → IfOk (ok_or fault (if a && b then Some n else None)) IsTime
ticks_if fault true n true e = leb-true n 1000000000000000000 e
ticks_if fault true n false e = tt
ticks_if fault false n b e = tt

seconds_value_if : (key : List ℕ) (frequency : ℕ) (v : Value) → IfOk (seconds_of_value key frequency v) IsTime
seconds_value_if key frequency (value.Plain text) =
    let whole = before_first (λ b. nat_eq b 46) text in
    let decimals = after_first (λ b. nat_eq b 46) text in
    ticks_if (BadNumber key) (is_numeral 18 (whole ++ decimals)) (digits_value 10 (whole ++ decimals) * frequency / 10 ^ length decimals) (nat_le (digits_value 10 (whole ++ decimals) * frequency / 10 ^ length decimals) 1000000000000000000) refl
seconds_value_if key frequency (value.List inner) = tt

pub seconds_if : (key : List ℕ) (frequency absent : ℕ) (xs : List Attribute) → IsTime absent → IfOk (seconds_at key frequency absent xs) IsTime
seconds_if key frequency absent xs h = read_or_if IsTime (Ok absent) (seconds_of_value key frequency) (first_value_of key xs) h (seconds_value_if key frequency)

-- the ticks of a second
abbrev pub IsFrequency : ℕ → Type 0
IsFrequency f = InRange 1 1000000000001 f

pub frequency_if : (xs : List Attribute) → IfOk (frequency_of xs) IsFrequency
frequency_if xs = number_if (codes "frequency") 1 1000000000001 (Ok 1000000000) xs (omega arith, omega arith)

-- ids

pub record AreIds (ids : IdRange) : Type 0 where
  pub rise : ids.from ≤ ids.to
  pub last : ids.to < 2147483648

id_if : (key : List ℕ) (v : Value) → IfOk (id_number key v) (InRange 0 2147483648)
id_if key v = value_if key 0 2147483648 v

range_if : (xs : List Attribute) → IfOk (range_of xs) AreIds
range_if xs = then_any AreIds (ends_of xs) _ (λ ends.
    then_any AreIds (id_number (codes "idrange") ends.0) _ (λ from.
    then_if (InRange 0 2147483648) AreIds (id_number (codes "idrange") ends.1) (ordered_range from) (id_if (codes "idrange") ends.1) (λ to h.
    passed AreIds (nat_le from to) (record { from = from; to = to }) (BadNumber (codes "idrange")) (λ e. record { rise = leb-true from to e; last = h.1 }))))

range_or_if : (o : Option Attributes) → IfOk (range_or o) AreIds
range_or_if None = tt
range_or_if (Some range) = range_if (attributes range)

id_or_if : (v : Option Value) (o : Option Attributes) → IfOk (id_or v o) AreIds
id_or_if (Some v) range = then_if (InRange 0 2147483648) AreIds (id_number (codes "id") v) _ (id_if (codes "id") v) (λ id h. record { rise = omega arith; last = h.1 })
id_or_if None range = range_or_if range

pub ids_if : (xs : List Attribute) → IfOk (ids_at xs) AreIds
ids_if xs = id_or_if (first_value_of (codes "id") xs) (first_of (lists_of (codes "idrange") xs))

-- interfaces

pub record IsInterfaceKeys (keys : InterfaceKeys) : Type 0 where
  pub bitrate : InRange 1 1000000000001 keys.bitrate
  pub latency : IsTime keys.latency
  pub buffer : InRange 1 2147483649 keys.buffer
  pub cost : InRange 1 65536 keys.cost

pub interface_keys_if : (frequency : ℕ) (xs : List Attribute) → IfOk (interface_keys frequency xs) IsInterfaceKeys
interface_keys_if frequency xs =
    then_if (InRange 1 1000000000001) IsInterfaceKeys (number_at (codes "bitrate") 1 1000000000001 (Ok 10000000) xs) _ (number_if (codes "bitrate") 1 1000000000001 (Ok 10000000) xs (omega arith, omega arith)) (λ bitrate h.
    then_if IsTime IsInterfaceKeys (seconds_at (codes "latency") frequency 0 xs) _ (seconds_if (codes "latency") frequency 0 xs (omega arith)) (λ latency i.
    then_if (InRange 1 2147483649) IsInterfaceKeys (number_at (codes "buffer") 1 2147483649 (Ok 1000000) xs) _ (number_if (codes "buffer") 1 2147483649 (Ok 1000000) xs (omega arith, omega arith)) (λ buffer j.
    then_if (InRange 1 65536) IsInterfaceKeys (number_at (codes "cost") 1 65536 (Ok 1) xs) _ (number_if (codes "cost") 1 65536 (Ok 1) xs (omega arith, omega arith)) (λ cost k.
    record { bitrate = h; latency = i; buffer = j; cost = k }))))

-- links

abbrev pub IsDown : Down → Type 0
IsDown down = (down.from < down.to) × (down.to ≤ 10 ^ 18)

pub record IsLinkKeys (keys : LinkKeys) : Type 0 where
  pub delay : IsTime keys.delay
  pub priority : keys.priority < 2 ^ 8
  pub some : 1 ≤ length keys.attached
  pub downs : All IsDown keys.downs

down_if : (frequency : ℕ) (xs : List Attribute) → IfOk (down_of frequency xs) IsDown
down_if frequency xs = then_any IsDown (ends_of xs) _ (λ ends.
    then_any IsDown (seconds_of_value (codes "down") frequency ends.0) _ (λ from.
    then_if IsTime IsDown (seconds_of_value (codes "down") frequency ends.1) (ordered_down from) (seconds_value_if (codes "down") frequency ends.1) (λ to h.
    passed IsDown (nat_lt from to) (record { from = from; to = to }) (BadNumber (codes "down")) (λ e. (ltb-true from to e, h)))))

-- times in which a link is down are in order, and there are at most 64 with those before
abbrev pub AreDowns : ℕ → List Down → Type 0
AreDowns before downs = All IsDown downs × (before ≤ 64 → before + length downs ≤ 64)

numbered_if : (frequency number : ℕ) (x : Attributes) → IfOk (numbered_down frequency number x) (λ down. IsDown down × (number < 64))
numbered_if frequency number x = then_if IsDown (λ down. IsDown down × (number < 64)) (down_of frequency (attributes x)) _ (down_if frequency (attributes x)) (λ down h.
    passed (λ (d : Down). IsDown d × (number < 64)) (nat_lt number 64) down _ (λ e. (h, ltb-true number 64 e)))

downs_if : (frequency number : ℕ) (xs : List Attributes) → IfOk (downs_from frequency number xs) (AreDowns number)
downs_if frequency number [] = (All-nil IsDown, λ h. omega arith)
downs_if frequency number (x ∷ xs) =
    then_if (λ down. IsDown down × (number < 64)) (AreDowns number) (numbered_down frequency number x) _ (numbered_if frequency number x) (λ down h.
    then_if (AreDowns (number + 1)) (AreDowns number) (downs_from frequency (number + 1) xs) _ (downs_if frequency (number + 1) xs) (λ downs g.
    (All-cons IsDown down downs h.0 g.0, λ few. let more = g.1 (omega arith) in omega arith)))

attached_if : (r : Read (List NhiFields)) → IfOk (some_attached r) (λ nhis. 1 ≤ length nhis)
attached_if (Err fault) = tt
attached_if (Ok []) = tt
attached_if (Ok (x ∷ xs)) = omega arith

pub link_keys_if : (frequency before : ℕ) (xs : List Attribute) → IfOk (link_keys frequency before xs) (λ keys. IsLinkKeys keys × (before ≤ 64 → before + length keys.downs ≤ 64))
link_keys_if frequency before xs =
    then_if (λ nhis. 1 ≤ length nhis) (λ keys. IsLinkKeys keys × (before ≤ 64 → before + length keys.downs ≤ 64)) (some_attached (attached_each (values_of (codes "attach") xs))) _ (attached_if _) (λ attached h.
    then_if IsTime (λ keys. IsLinkKeys keys × (before ≤ 64 → before + length keys.downs ≤ 64)) (seconds_at (codes "delay") frequency 0 xs) _ (seconds_if (codes "delay") frequency 0 xs (omega arith)) (λ delay i.
    then_if (InRange 0 256) (λ keys. IsLinkKeys keys × (before ≤ 64 → before + length keys.downs ≤ 64)) (number_at (codes "priority") 0 256 (Ok 0) xs) _ (number_if (codes "priority") 0 256 (Ok 0) xs (omega arith, omega arith)) (λ priority first.
    then_if (AreDowns before) (λ keys. IsLinkKeys keys × (before ≤ 64 → before + length keys.downs ≤ 64)) (downs_from frequency before (lists_of (codes "down") xs)) _ (downs_if frequency before (lists_of (codes "down") xs)) (λ downs j.
    (record { delay = i; priority = omega arith; some = h; downs = j.0 }, j.1)))))

-- sessions

pub client_if : (frequency : ℕ) (xs : List Attribute) → IsFrequency frequency → IfOk (client_keys frequency xs) IsClient
client_if frequency xs f =
    then_any IsClient (transport_of (first_value_of (codes "transport") xs)) _ (λ tcp.
    then_if IsTime IsClient (seconds_at (codes "start_time") frequency 0 xs) _ (seconds_if (codes "start_time") frequency 0 xs (omega arith)) (λ start h.
    then_if IsTime IsClient (seconds_at (codes "start_window") frequency 0 xs) _ (seconds_if (codes "start_window") frequency 0 xs (omega arith)) (λ window i.
    then_if (InRange 0 1073741825) IsClient (number_at (codes "file_size") 0 1073741825 (Ok 10000) xs) _ (number_if (codes "file_size") 0 1073741825 (Ok 10000) xs (omega arith, omega arith)) (λ file j.
    then_if (InRange 1 65508) IsClient (number_at (codes "datagram_size") 1 65508 (Ok 1000) xs) _ (number_if (codes "datagram_size") 1 65508 (Ok 1000) xs (omega arith, omega arith)) (λ datagram k.
    then_if IsTime IsClient (seconds_at (codes "send_interval") frequency (frequency / 100) xs) _ (seconds_if (codes "send_interval") frequency (frequency / 100) xs (omega arith)) (λ interval l.
    record { start = h; window = i; file = omega arith; datagram = (omega arith, omega arith); interval = l }))))))

pub default_tcp_is : (frequency : ℕ) → IsFrequency frequency → IsTcp frequency (default_tcp frequency)
default_tcp_is frequency f = record {
  iss = omega arith;
  mss = (omega arith, omega arith);
  receive = (omega arith, omega arith);
  send = (omega arith, omega arith);
  tries = omega arith;
  msl = omega arith;
  frequency_is = refl;
}

tcp_keys_if : (frequency : ℕ) (xs : List Attribute) → IsFrequency frequency → IfOk (tcp_keys frequency xs) (IsTcp frequency)
tcp_keys_if frequency xs f =
    then_if (InRange 0 1073741825) (IsTcp frequency) (number_at (codes "ISS") 0 1073741825 (Ok 0) xs) _ (number_if (codes "ISS") 0 1073741825 (Ok 0) xs (omega arith, omega arith)) (λ iss h.
    then_if (InRange 1 65496) (IsTcp frequency) (number_at (codes "MSS") 1 65496 (Ok 1000) xs) _ (number_if (codes "MSS") 1 65496 (Ok 1000) xs (omega arith, omega arith)) (λ mss i.
    then_if (InRange 1 65536) (IsTcp frequency) (number_at (codes "RcvWndSize") 1 65536 (Ok 32) xs) _ (number_if (codes "RcvWndSize") 1 65536 (Ok 32) xs (omega arith, omega arith)) (λ receive j.
    then_if (InRange 1 65536) (IsTcp frequency) (number_at (codes "SendWndSize") 1 65536 (Ok 32) xs) _ (number_if (codes "SendWndSize") 1 65536 (Ok 32) xs (omega arith, omega arith)) (λ send k.
    then_if (InRange 0 101) (IsTcp frequency) (number_at (codes "MaxRexmitTimes") 0 101 (Ok 12) xs) _ (number_if (codes "MaxRexmitTimes") 0 101 (Ok 12) xs (omega arith, omega arith)) (λ tries l.
    then_if IsTime (IsTcp frequency) (seconds_at (codes "MSL") frequency (60 * frequency) xs) _ (seconds_if (codes "MSL") frequency (60 * frequency) xs (omega arith)) (λ msl m.
    record {
      iss = omega arith;
      mss = (omega arith, omega arith);
      receive = (omega arith, omega arith);
      send = (omega arith, omega arith);
      tries = omega arith;
      msl = m;
      frequency_is = refl;
    }))))))

tcp_at_if : (frequency : ℕ) (o : Option Attributes) (xs : List Attribute) → IsFrequency frequency → IfOk (tcp_at frequency o xs) (IsTcp frequency)
tcp_at_if frequency None xs f = tcp_keys_if frequency xs f
tcp_at_if frequency (Some inner) xs f = tcp_keys_if frequency (attributes inner) f

abbrev pub IsSessionKeys : ℕ → SessionKeys → Type 0
IsSessionKeys frequency session.Silent = Unit {0}
IsSessionKeys frequency session.Ospf = Unit {0}
IsSessionKeys frequency (session.Tcp settings) = IsTcp frequency settings
IsSessionKeys frequency (session.Client row) = IsClient row
IsSessionKeys frequency (session.Server port) = 1 ≤ port

either : {A : Type 0} (P : A → Type 0) (b : Bool) (r q : Read A) → IfOk r P → IfOk q P → IfOk (if b then r else q) P
either P true r q h g = h
either P false r q h g = g

pub port_if : (xs : List Attribute) → IfOk (port_of xs) (InRange 1 65536)
port_if xs = number_if (codes "port") 1 65536 (Err (Missing (codes "port"))) xs tt

named_if : (frequency : ℕ) (xs : List Attribute) (name : List ℕ) → IsFrequency frequency → IfOk (session_named frequency xs name) (IsSessionKeys frequency)
named_if frequency xs name f =
    either (IsSessionKeys frequency) (is_text (codes "ip") name || is_text (codes "udp") name || is_text (codes "socket") name) _ _ tt
    (either (IsSessionKeys frequency) (is_text (codes "tcp") name) _ _
    (then_if (IsTcp frequency) (IsSessionKeys frequency) (tcp_at frequency (first_of (lists_of (codes "tcpinit") xs)) xs) _ (tcp_at_if frequency (first_of (lists_of (codes "tcpinit") xs)) xs f) (λ settings h. h))
    (either (IsSessionKeys frequency) (is_text (codes "client") name) _ _
    (then_if IsClient (IsSessionKeys frequency) (client_keys frequency xs) _ (client_if frequency xs f) (λ row h. h))
    (either (IsSessionKeys frequency) (is_text (codes "server") name) _ _
    (then_if (InRange 1 65536) (IsSessionKeys frequency) (port_of xs) _ (port_if xs) (λ port h. h.0))
    (either (IsSessionKeys frequency) (is_text (codes "OSPF") name || is_text (codes "ospf") name) _ _ tt tt))))

pub session_keys_if : (frequency : ℕ) (xs : List Attribute) → IsFrequency frequency → IfOk (session_keys frequency xs) (IsSessionKeys frequency)
session_keys_if frequency xs f = then_any (IsSessionKeys frequency) (text_or_missing (codes "name") (first_value_of (codes "name") xs)) (session_named frequency xs) (λ name. named_if frequency xs name f)

-- servers of patterns
pub server_keys_if : (xs : List Attribute) → IfOk (server_keys xs) (λ keys. 1 ≤ keys.port)
server_keys_if xs = then_any (λ (keys : ServerKeys). 1 ≤ keys.port) (server_nhi xs) _ (λ nhi.
    then_if (InRange 1 65536) (λ (keys : ServerKeys). 1 ≤ keys.port) (port_of xs) _ (port_if xs) (λ port h. h.0))
