mod Arriving
mod Looping
mod RoleCases
mod Sending
mod Starting
mod Valid
