-- Tables that are kept while the addresses of a network are looked up, and how each step changes them.
use Rattle.std.specs.Prelude.{ℕ, ◌≡◌, ◌+◌, ◌<◌, Bool, true, false, List, [], ◌∷◌, length, map, slice_index_or, slice_set, Option, Some, None, Ok, Err}
use Rattle.std.specs.List.{count_by}
use Rattle.std.specs.Option.{unwrap_or}
use Rattle.nhi_address.specs.NhiFields.{NhiFields}
use Rattle.net_graph.specs.declared.fault.ShapeFault.TheVariants.{UnknownNhi, AttachedTwice}
use Rattle.net_graph.specs.declared.rows.Gateway.{Gateway}
use Rattle.net_graph.specs.declared.rows.HostRow.{HostRow}
use Rattle.net_graph.specs.declared.rows.InterfaceRow.{InterfaceRow}
use Rattle.net_graph.specs.declared.rows.LinkRow.{LinkRow}
use Rattle.net_graph.specs.declared.list_keys.SessionKeys.{SessionKeys}
use Rattle.net_graph.specs.declared.list_keys.SessionKeys.TheVariants as keys
use Rattle.net_graph.specs.declared.seen.HostSeen.{HostSeen}
use Rattle.net_graph.specs.declared.seen.LinkSeen.{LinkSeen}
use Rattle.net_graph.specs.declared.seen.SessionSeen.{SessionSeen}
use Rattle.net_graph.specs.declared.seen.Seen.{Seen}
use Rattle.net_graph.specs.ListKeys.{default_tcp}
use Rattle.net_graph.specs.Reads.{Read, then_read}
use Rattle.net_graph.specs.NetworkOf.{Attachment, attachments_of, first_interface, interface_by_nhi, attached_at}
use Rattle.net_resolve.specs.declared.hosts.HostSummary.{HostSummary}

-- the first interface of each host

-- an interface with this number and this host, where those of smaller numbers came before
abbrev pub noted_at : List (Option ℕ) → ℕ → ℕ → Option ℕ → List (Option ℕ)
noted_at firsts host number None = slice_set firsts host (Some number)
noted_at firsts host number (Some first) = firsts

abbrev pub noted : List (Option ℕ) → ℕ → ℕ → List (Option ℕ)
noted firsts host number = noted_at firsts host number (slice_index_or firsts host (Some 0))

unfoldable pub firsts_after : List (Option ℕ) → ℕ → List InterfaceRow → List (Option ℕ)
firsts_after firsts number [] = firsts
firsts_after firsts number (row ∷ rows) = firsts_after (noted firsts row.host number) (number + 1) rows

pub record IsFirsts (seen : Seen) (firsts : List (Option ℕ)) : Type 0 where
  pub each : (host : ℕ) → host < length seen.host_names → slice_index_or firsts host None ≡ first_interface seen (Some host)

-- where each interface is attached: the link's number, and the place there

abbrev pub Places : Type 0
Places = List (Option (ℕ × ℕ))

-- the attachment, at this place of a link, of the interface with a full NHI
abbrev pub attachment_to : Seen → ℕ → ℕ → NhiFields → Attachment
attachment_to seen link place nhi = record { link = link; place = place; nhi = nhi; interface = interface_by_nhi seen nhi nhi.interface }

abbrev pub put_free : Places → ℕ → Attachment → Option (ℕ × ℕ) → Read Places
put_free places number a None = Ok (slice_set places number (Some (a.link, a.place)))
put_free places number a (Some other) = Err (AttachedTwice a.nhi)

abbrev pub put_at : Places → Attachment → Option ℕ → Read Places
put_at places a None = Err (UnknownNhi a.nhi)
put_at places a (Some number) = put_free places number a (slice_index_or places number None)

abbrev pub put : Places → Attachment → Read Places
put places a = put_at places a a.interface

unfoldable pub put_all : Places → List Attachment → Read Places
put_all places [] = Ok places
put_all places (a ∷ more) = then_read (put places a) (λ after. put_all after more)

-- the table of these attachments
pub record IsTable (all : List Attachment) (places : Places) : Type 0 where
  pub each : (number : ℕ) → slice_index_or places number None ≡ attached_at all number

abbrev pub is_taken : Option (ℕ × ℕ) → Bool
is_taken None = false
is_taken (Some place) = true

-- how many interfaces are attached
abbrev pub taken : Places → ℕ
taken places = count_by is_taken places

-- rows

abbrev pub interface_of : Attachment → ℕ
interface_of a = unwrap_or a.interface 0

abbrev pub link_row : Seen → ℕ → LinkSeen → LinkRow
link_row seen number l = record {
  net = l.net;
  order = l.order;
  delay = l.keys.delay;
  attached = map interface_of (attachments_of seen number l.path 0 l.keys.attached);
  priority = l.keys.priority;
  downs = l.keys.downs;
}

unfoldable pub link_rows_from : Seen → ℕ → List LinkSeen → List LinkRow
link_rows_from seen number [] = []
link_rows_from seen number (l ∷ ls) = link_row seen number l ∷ link_rows_from seen (number + 1) ls

unfoldable pub placed_rows : Places → ℕ → List InterfaceRow → List InterfaceRow
placed_rows places number [] = []
placed_rows places number (row ∷ rows) = record row { link = slice_index_or places number None } ∷ placed_rows places (number + 1) rows

-- what the sessions of each host say of it

abbrev pub silent : HostSummary
silent = record { ospf = false; tcp = None }

abbrev pub with_session : SessionKeys → HostSummary → HostSummary
with_session keys.Ospf summary = record { ospf = true; tcp = summary.tcp }
with_session (keys.Tcp settings) summary = record { ospf = summary.ospf; tcp = Some (unwrap_or summary.tcp settings) }
with_session _ summary = summary

-- the row of a host with this default route, and this summary
abbrev pub host_row : ℕ → HostSeen → Option Gateway → HostSummary → HostRow
host_row frequency h gateway summary =
    record { net = h.net; id = h.id; router = h.router; ospf = summary.ospf; gateway = gateway; tcp = unwrap_or summary.tcp (default_tcp frequency) }

abbrev pub told_one : List HostSummary → SessionSeen → List HostSummary
told_one summaries s = slice_set summaries s.host (with_session s.keys (slice_index_or summaries s.host silent))

unfoldable pub told : List HostSummary → List SessionSeen → List HostSummary
told summaries [] = summaries
told summaries (s ∷ ss) = told (told_one summaries s) ss
