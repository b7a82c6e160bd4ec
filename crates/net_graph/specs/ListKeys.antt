-- The keys of each kind of list of a Net: what they say, or the first fault. The first attribute of a key counts
-- where one is wanted, and keys are looked at in the order in which they stand here.
use Rattle.std.specs.Prelude.{ℕ, Bool, true, false, ◌+◌, ◌*◌, ◌/◌, ◌||◌, nat_eq, nat_le, nat_lt, List, [], ◌∷◌, map, filter, Option, Some, None, Ok, Err, codes, is_some, if◌then◌else◌}
use Rattle.std.specs.Cmp.Lexicographic.{pointwise}
use Rattle.dml_tree.specs.declared.tree.Attribute.{Attribute}
use Rattle.dml_tree.specs.declared.tree.Value.{Value}
use Rattle.dml_tree.specs.declared.tree.Value.TheVariants as value
use Rattle.dml_tree.specs.Attributes.{Attributes}
use Rattle.dml_tree.specs.TreeView.{attributes}
use Rattle.nhi_address.specs.NhiFields.{NhiFields}
use Rattle.nhi_address.specs.NhiText.{nhi_of}
use Rattle.nhi_address.specs.declared.nhi.IdRange.{IdRange}
use Rattle.sim_base.specs.declared.records.TcpConfig.{TcpConfig}
use Rattle.sim_base.specs.declared.records.ClientRow.{ClientRow}
use Rattle.net_graph.specs.declared.fault.ShapeFault.TheVariants.{BadNhi, BadNumber, Missing, UnknownSession, TooMany}
use Rattle.net_graph.specs.declared.rows.Down.{Down}
use Rattle.net_graph.specs.declared.list_keys.InterfaceKeys.{InterfaceKeys}
use Rattle.net_graph.specs.declared.list_keys.GatewayKeys.{GatewayKeys}
use Rattle.net_graph.specs.declared.list_keys.LinkKeys.{LinkKeys}
use Rattle.net_graph.specs.declared.list_keys.ServerKeys.{ServerKeys}
use Rattle.net_graph.specs.declared.list_keys.SessionKeys.{SessionKeys}
use Rattle.net_graph.specs.declared.list_keys.SessionKeys.TheVariants as session
use Rattle.net_graph.specs.Keys.{values_of, lists_of, lists_in, first_of, number_of_value}
use Rattle.net_graph.specs.Reads.{Read, then_read, read_each, read_or, ok_or}
use Rattle.net_graph.specs.Readers.{seconds_of}

-- the first value with a key
abbrev pub first_value_of : List ℕ → List Attribute → Option Value
first_value_of key xs = first_of (values_of key xs)

abbrev pub is_text : List ℕ → List ℕ → Bool
is_text wanted text = pointwise nat_eq text wanted

-- a number from `least` on and below `end`
abbrev pub number_at : List ℕ → ℕ → ℕ → Read ℕ → List Attribute → Read ℕ
number_at key least end absent xs = read_or absent (number_of_value key least end) (first_value_of key xs)

-- seconds, in ticks
abbrev pub seconds_of_value : List ℕ → ℕ → Value → Read ℕ
seconds_of_value key frequency (value.Plain text) = ok_or (BadNumber key) (seconds_of frequency text)
seconds_of_value key frequency (value.List inner) = Err (BadNumber key)

abbrev pub seconds_at : List ℕ → ℕ → ℕ → List Attribute → Read ℕ
seconds_at key frequency absent xs = read_or (Ok absent) (seconds_of_value key frequency) (first_value_of key xs)

-- a text that is any NHI
abbrev pub nhi_of_value : List ℕ → Value → Read NhiFields
nhi_of_value key (value.Plain text) = ok_or (BadNhi text) (nhi_of text)
nhi_of_value key (value.List inner) = Err (BadNumber key)

-- a text that is an NHI with an interface, or without one
abbrev pub nhi_where : Bool → List ℕ → Option NhiFields → Read NhiFields
nhi_where true text None = Err (BadNhi text)
nhi_where false text None = Err (BadNhi text)
nhi_where true text (Some nhi) = if is_some nhi.interface then Ok nhi else Err (BadNhi text)
nhi_where false text (Some nhi) = if is_some nhi.interface then Err (BadNhi text) else Ok nhi

abbrev pub nhi_of_kind : Bool → List ℕ → Value → Read NhiFields
nhi_of_kind interface key (value.Plain text) = nhi_where interface text (nhi_of text)
nhi_of_kind interface key (value.List inner) = Err (BadNumber key)

-- top Net

abbrev pub frequency_of : List Attribute → Read ℕ
frequency_of xs = number_at (codes "frequency") 1 1000000000001 (Ok 1000000000) xs

-- nested Net, host, router, interface: an id, or a range of ids

abbrev pub id_number : List ℕ → Value → Read ℕ
id_number key v = number_of_value key 0 2147483648 v

abbrev pub ordered_range : ℕ → ℕ → Read IdRange
ordered_range from to = if nat_le from to then Ok (record { from = from; to = to }) else Err (BadNumber (codes "idrange"))

-- both ends are looked for before they are read
abbrev pub both_ends : Option Value → Option Value → Read (Value × Value)
both_ends None to = Err (Missing (codes "from"))
both_ends (Some a) None = Err (Missing (codes "to"))
both_ends (Some a) (Some b) = Ok (a, b)

abbrev pub ends_of : List Attribute → Read (Value × Value)
ends_of xs = both_ends (first_value_of (codes "from") xs) (first_value_of (codes "to") xs)

abbrev pub range_of : List Attribute → Read IdRange
range_of xs = then_read (ends_of xs) (λ ends.
    then_read (id_number (codes "idrange") ends.0) (λ from.
    then_read (id_number (codes "idrange") ends.1) (λ to. ordered_range from to)))

abbrev pub range_or : Option Attributes → Read IdRange
range_or None = Err (Missing (codes "id"))
range_or (Some range) = range_of (attributes range)

abbrev pub id_or : Option Value → Option Attributes → Read IdRange
id_or (Some v) range = then_read (id_number (codes "id") v) (λ id. Ok (record { from = id; to = id }))
id_or None range = range_or range

abbrev pub ids_at : List Attribute → Read IdRange
ids_at xs = id_or (first_value_of (codes "id") xs) (first_of (lists_of (codes "idrange") xs))

-- interface

abbrev pub interface_keys : ℕ → List Attribute → Read InterfaceKeys
interface_keys frequency xs =
    then_read (number_at (codes "bitrate") 1 1000000000001 (Ok 10000000) xs) (λ bitrate.
    then_read (seconds_at (codes "latency") frequency 0 xs) (λ latency.
    then_read (number_at (codes "buffer") 1 2147483649 (Ok 1000000) xs) (λ buffer.
    then_read (number_at (codes "cost") 1 65536 (Ok 1) xs) (λ cost.
    Ok (record { bitrate = bitrate; latency = latency; buffer = buffer; cost = cost })))))

-- host, router: the first `nhi_route` or `route` whose `dest` is `default`

abbrev pub is_route : Attribute → Bool
is_route x = pointwise nat_eq x.key (codes "nhi_route") || pointwise nat_eq x.key (codes "route")

abbrev pub routes_of : List Attribute → List Attributes
routes_of xs = lists_in (map (λ x. x.value) (filter is_route xs))

-- whether the destination of a route is `default`
abbrev pub is_default : Option Value → Read Bool
is_default None = Ok false
is_default (Some (value.Plain text)) = Ok (is_text (codes "default") text)
is_default (Some (value.List inner)) = Err (BadNumber (codes "dest"))

abbrev pub default_or : Attributes → Read (Option Attributes) → Bool → Read (Option Attributes)
default_or route rest true = Ok (Some route)
default_or route rest false = rest

abbrev pub default_in : List Attributes → Read (Option Attributes)
default_in [] = Ok None
default_in (route ∷ routes) = then_read (is_default (first_value_of (codes "dest") (attributes route))) (default_or route (default_in routes))

abbrev pub next_hop_of : Option Value → Read (Option NhiFields)
next_hop_of None = Ok None
next_hop_of (Some v) = then_read (nhi_of_kind true (codes "next_hop") v) (λ nhi. Ok (Some nhi))

abbrev pub route_of : List Attribute → Read GatewayKeys
route_of xs =
    then_read (number_at (codes "interface") 0 2147483648 (Err (Missing (codes "interface"))) xs) (λ interface.
    then_read (next_hop_of (first_value_of (codes "next_hop") xs)) (λ next.
    Ok (record { interface = interface; next = next })))

abbrev pub gateway_or : Option Attributes → Read (Option GatewayKeys)
gateway_or None = Ok None
gateway_or (Some route) = then_read (route_of (attributes route)) (λ keys. Ok (Some keys))

abbrev pub gateway_of : List Attribute → Read (Option GatewayKeys)
gateway_of xs = then_read (default_in (routes_of xs)) gateway_or

-- link

abbrev pub attached_each : List Value → Read (List NhiFields)
attached_each vs = read_each (nhi_of_kind true (codes "attach")) vs

-- there has to be one
abbrev pub some_attached : Read (List NhiFields) → Read (List NhiFields)
some_attached (Err fault) = Err fault
some_attached (Ok []) = Err (Missing (codes "attach"))
some_attached (Ok (x ∷ xs)) = Ok (x ∷ xs)

abbrev pub ordered_down : ℕ → ℕ → Read Down
ordered_down from to = if nat_lt from to then Ok (record { from = from; to = to }) else Err (BadNumber (codes "down"))

abbrev pub down_of : ℕ → List Attribute → Read Down
down_of frequency xs = then_read (ends_of xs) (λ ends.
    then_read (seconds_of_value (codes "down") frequency ends.0) (λ from.
    then_read (seconds_of_value (codes "down") frequency ends.1) (λ to. ordered_down from to)))

-- the time that has this number in the whole model, of which there may be 64
abbrev pub numbered_down : ℕ → ℕ → Attributes → Read Down
numbered_down frequency number x = then_read (down_of frequency (attributes x)) (λ down. if nat_lt number 64 then Ok down else Err (TooMany (codes "downs")))

-- those of a link, from this number on
abbrev pub downs_from : ℕ → ℕ → List Attributes → Read (List Down)
downs_from frequency number [] = Ok []
downs_from frequency number (x ∷ xs) =
    then_read (numbered_down frequency number x) (λ down.
    then_read (downs_from frequency (number + 1) xs) (λ downs. Ok (down ∷ downs)))

-- where so many times in which a link is down came before
abbrev pub link_keys : ℕ → ℕ → List Attribute → Read LinkKeys
link_keys frequency before xs =
    then_read (some_attached (attached_each (values_of (codes "attach") xs))) (λ attached.
    then_read (seconds_at (codes "delay") frequency 0 xs) (λ delay.
    then_read (number_at (codes "priority") 0 256 (Ok 0) xs) (λ priority.
    then_read (downs_from frequency before (lists_of (codes "down") xs)) (λ downs.
    Ok (record { attached = attached; delay = delay; priority = priority; downs = downs })))))

-- session

abbrev pub text_or_missing : List ℕ → Option Value → Read (List ℕ)
text_or_missing key None = Err (Missing key)
text_or_missing key (Some (value.Plain text)) = Ok text
text_or_missing key (Some (value.List inner)) = Err (BadNumber key)

abbrev pub port_of : List Attribute → Read ℕ
port_of xs = number_at (codes "port") 1 65536 (Err (Missing (codes "port"))) xs

abbrev pub transport_of : Option Value → Read Bool
transport_of None = Ok true
transport_of (Some (value.Plain text)) = if is_text (codes "tcp") text then Ok true else if is_text (codes "udp") text then Ok false else Err (BadNumber (codes "transport"))
transport_of (Some (value.List inner)) = Err (BadNumber (codes "transport"))

abbrev pub client_keys : ℕ → List Attribute → Read ClientRow
client_keys frequency xs =
    then_read (transport_of (first_value_of (codes "transport") xs)) (λ tcp.
    then_read (seconds_at (codes "start_time") frequency 0 xs) (λ start.
    then_read (seconds_at (codes "start_window") frequency 0 xs) (λ window.
    then_read (number_at (codes "file_size") 0 1073741825 (Ok 10000) xs) (λ file.
    then_read (number_at (codes "datagram_size") 1 65508 (Ok 1000) xs) (λ datagram.
    then_read (seconds_at (codes "send_interval") frequency (frequency / 100) xs) (λ interval.
    Ok (record { tcp = tcp; start = start; window = window; file = file; datagram = datagram; interval = interval })))))))

-- TCP without settings
abbrev pub default_tcp : ℕ → TcpConfig
default_tcp frequency = record { iss = 0; mss = 1000; receive = 32; send = 32; tries = 12; msl = 60 * frequency; frequency = frequency }

abbrev pub tcp_keys : ℕ → List Attribute → Read TcpConfig
tcp_keys frequency xs =
    then_read (number_at (codes "ISS") 0 1073741825 (Ok 0) xs) (λ iss.
    then_read (number_at (codes "MSS") 1 65496 (Ok 1000) xs) (λ mss.
    then_read (number_at (codes "RcvWndSize") 1 65536 (Ok 32) xs) (λ receive.
    then_read (number_at (codes "SendWndSize") 1 65536 (Ok 32) xs) (λ send.
    then_read (number_at (codes "MaxRexmitTimes") 0 101 (Ok 12) xs) (λ tries.
    then_read (seconds_at (codes "MSL") frequency (60 * frequency) xs) (λ msl.
    Ok (record { iss = iss; mss = mss; receive = receive; send = send; tries = tries; msl = msl; frequency = frequency })))))))

-- the settings stand in the first list `tcpinit`, and else at the session
abbrev pub tcp_at : ℕ → Option Attributes → List Attribute → Read TcpConfig
tcp_at frequency None xs = tcp_keys frequency xs
tcp_at frequency (Some inner) xs = tcp_keys frequency (attributes inner)

abbrev pub session_named : ℕ → List Attribute → List ℕ → Read SessionKeys
session_named frequency xs name =
    if is_text (codes "ip") name || is_text (codes "udp") name || is_text (codes "socket") name then Ok session.Silent
    else if is_text (codes "tcp") name then then_read (tcp_at frequency (first_of (lists_of (codes "tcpinit") xs)) xs) (λ settings. Ok (session.Tcp settings))
    else if is_text (codes "client") name then then_read (client_keys frequency xs) (λ row. Ok (session.Client row))
    else if is_text (codes "server") name then then_read (port_of xs) (λ port. Ok (session.Server port))
    else if is_text (codes "OSPF") name || is_text (codes "ospf") name then Ok session.Ospf
    else Err (UnknownSession name)

abbrev pub session_keys : ℕ → List Attribute → Read SessionKeys
session_keys frequency xs = then_read (text_or_missing (codes "name") (first_value_of (codes "name") xs)) (session_named frequency xs)

-- traffic pattern: its client, and each of its lists `servers`

abbrev pub client_of : List Attribute → Read NhiFields
client_of xs = read_or (Err (Missing (codes "client"))) (nhi_of_kind false (codes "client")) (first_value_of (codes "client") xs)

abbrev pub server_nhi : List Attribute → Read NhiFields
server_nhi xs = read_or (Err (Missing (codes "nhi"))) (nhi_of_value (codes "nhi")) (first_value_of (codes "nhi") xs)

abbrev pub server_keys : List Attribute → Read ServerKeys
server_keys xs =
    then_read (server_nhi xs) (λ nhi.
    then_read (port_of xs) (λ port.
    Ok (record { nhi = nhi; port = port })))
