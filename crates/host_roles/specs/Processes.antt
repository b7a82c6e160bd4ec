-- The processes of a host by their numbers.
use Rattle.std.specs.Prelude.{◌≡◌, Option, Some, None, slice_get}
use Rattle.host_rules.specs.declared.rows.HostRows.{HostRows}
use Rattle.host_rules.specs.Reacting.{Role, Receiver as ReceiverRole, Clock as ClockRole, Client as ClientRole}
use Rattle.host_roles.specs.declared.roles.Process.{Process}
use Rattle.host_roles.specs.declared.roles.Process.TheVariants.{Receiver, Clock, Client}

-- a process is this role: its interface or its client session is that of the number
abbrev pub IsRole : HostRows → Process → Role → Type 0
IsRole rows (Receiver place) (ReceiverRole port) = slice_get rows.ports place ≡ Some port
IsRole rows (Receiver place) ClockRole = ⊥
IsRole rows (Receiver place) (ClientRole client row) = ⊥
IsRole rows Clock (ReceiverRole port) = ⊥
IsRole rows Clock ClockRole = Unit {0}
IsRole rows Clock (ClientRole client row) = ⊥
IsRole rows (Client number) (ReceiverRole port) = ⊥
IsRole rows (Client number) ClockRole = ⊥
IsRole rows (Client number) (ClientRole client row) = (client ≡ number) × (slice_get rows.clients number ≡ Some row)

abbrev pub IsRoleOf : HostRows → Option Process → Option Role → Type 0
IsRoleOf rows None None = Unit {0}
IsRoleOf rows None (Some role) = ⊥
IsRoleOf rows (Some process) None = ⊥
IsRoleOf rows (Some process) (Some role) = IsRole rows process role
