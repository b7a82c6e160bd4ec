-- Sessions between the same ends.
use Rattle.std.specs.Prelude.{Bool, ◌&&◌, not, List, Option}
use Rattle.std.specs.List.{find}
use Rattle.host_rules.specs.Hosts.{Sockets, EntryFields}
use Rattle.host_rules.specs.Entries.{same_sockets, is_accepted}

abbrev pub is_accepted_between : Sockets → EntryFields → Bool
is_accepted_between sockets x = same_sockets x.sockets sockets && is_accepted x

abbrev pub is_opened_between : Sockets → EntryFields → Bool
is_opened_between sockets x = same_sockets x.sockets sockets && not (is_accepted x)

-- the first session between these ends that was accepted, and the first one that the host opened
abbrev pub accepted_between : Sockets → List EntryFields → Option EntryFields
accepted_between sockets entries = find (is_accepted_between sockets) entries

abbrev pub opened_between : Sockets → List EntryFields → Option EntryFields
opened_between sockets entries = find (is_opened_between sockets) entries
