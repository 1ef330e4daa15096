-- A spawner by its past: its place agrees with it, and what it gives at each event.
use Rattle.std.proofs.Common.{ℕ, List, ◌∷◌, sym, subst}
use Rattle.call_fs.specs.Past.{IsRunBy, Table}
use Rattle.call_fs.specs.declared.past.Own.{Own}
use Rattle.local_spawn.specs.declared.place.Place.{Place as LocalPlace}
use Rattle.local_spawn.specs.declared.row.Row.{Row as LocalRow}
use Rattle.local_spawn.specs.declared.row.Row.TheVariants as at
use Rattle.local_spawn.specs.Table.{Next as LocalNext, place_after as local_after}
use Rattle.local_spawn.proofs.Tells.{At, tells as local_tells}
use Rattle.program_law.specs.Post.Posts.{told_by}
use Rattle.remote_spawn.specs.Table.{Next as RemoteNext, place_after as remote_after}
use Rattle.remote_spawn.proofs.Tells.{tells as remote_tells}
use Rattle.send_known.specs.declared.channel.Channel.{Channel}
use Rattle.send_known.specs.declared.channel.Channel.TheVariants.{Local, Remote}
use Rattle.spawner_parts.specs.Counts.{reported}
use Rattle.spawner_parts.specs.Known.{Tells}
use Rattle.world_law.specs.Spawned.{stands_after}
use Rattle.settle_law.proofs.Says.{GivesAll, Says, local_says, remote_says}

abbrev pub next_on : Channel → Table
next_on Local = LocalNext tt
next_on Remote = RemoteNext tt

told_at : (past : List Own) (row : LocalRow) (p : LocalPlace) → At past row p → Tells past p.work
told_at past at.OpenUsers p h = subst (Tells past) (sym h.1.begun) h.1.tells
told_at past (at.ReadUsers fd) p h = subst (Tells past) (sym h.begun) h.tells
told_at past (at.CloseUsers fd whole) p h = subst (Tells past) (sym h.begun) h.tells
told_at past at.Serves p h = h.tells
told_at past at.OutOfMemory p h = subst (Tells past) (sym h.1.begun) h.1.tells

pub tells_on : (c : Channel) (past : List Own) → IsRunBy (next_on c) past → Tells past (stands_after c past)
tells_on Local past run = let p = local_after past in told_at past p.row p (local_tells tt past run)
tells_on Remote past run = remote_tells tt past run

pub says_on : (c : Channel) (past : List Own) (own : Own) (wrote : ℕ) (given : List ℕ) → IsRunBy (next_on c) (own ∷ past) → GivesAll own
    → Says (stands_after c past).row (stands_after c past) given (reported past)
    → Says (stands_after c (own ∷ past)).row (stands_after c (own ∷ past)) (told_by own.due own.came wrote given) (reported (own ∷ past))
says_on Local past own wrote given run gives says = local_says own wrote given (reported past) (local_after past) (sym run.1.0) run.1.1 gives says
says_on Remote past own wrote given run gives says = remote_says own wrote given (reported past) (remote_after past) (sym run.1.0) run.1.1 gives says
