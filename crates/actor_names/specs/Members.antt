-- The members of a generation, by their names and by their seats.
use Rattle.std.specs.Prelude.{ℕ, zero, suc, List, if◌then◌else◌, Option, Some, None, bytes_eq, codes}
use Rattle.actor_names.specs.declared.member.Member.{Member}
use Rattle.actor_names.specs.declared.member.Member.TheVariants as member

-- the name of each
abbrev pub name_of : Member → List ℕ
name_of member.Sender = codes "sender"
name_of member.Cleaner = codes "clean"
name_of member.LocalSpawner = codes "lspawn"
name_of member.RemoteSpawner = codes "rspawn"

-- whose name it is
abbrev pub member_of : List ℕ → Option Member
member_of a = if bytes_eq a (codes "sender") then Some member.Sender
    else (if bytes_eq a (codes "clean") then Some member.Cleaner
    else (if bytes_eq a (codes "lspawn") then Some member.LocalSpawner
    else (if bytes_eq a (codes "rspawn") then Some member.RemoteSpawner
    else None)))

-- the seat of each: its place among the members
abbrev pub seat_of : Member → ℕ
seat_of member.Sender = 0
seat_of member.Cleaner = 1
seat_of member.LocalSpawner = 2
seat_of member.RemoteSpawner = 3

-- whose seat it is
abbrev pub member_at : ℕ → Option Member
member_at zero = Some member.Sender
member_at (suc zero) = Some member.Cleaner
member_at (suc (suc zero)) = Some member.LocalSpawner
member_at (suc (suc (suc zero))) = Some member.RemoteSpawner
member_at other = None
