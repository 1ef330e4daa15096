-- Each preprocessed message is known, when a turn begins.
use Rattle.std.proofs.Common.{◌≡◌, ⊎_elim, ℕ, suc, ◌<◌, ◌≤◌, ◌^◌, List, [], ◌∷◌, Bool, true, false, Option, Some, None, eqb-true, refl, sym, ap, ◌∙◌, subst, arith}
use Rattle.std.specs.Prelude.{Contains, is_some, ◌==◌, ◌||◌}
use Rattle.call_fs.specs.Disk.{Disk}
use Rattle.call_fs.specs.Past.{IsRunBy}
use Rattle.queue_law.proofs.Looks.{find_some}
use Rattle.queue_law.specs.Books.{Injection}
use Rattle.queue_law.specs.Numbers.{Phase, Role, about}
use Rattle.queue_law.specs.Numbers.Phase.{Finished, Free, Queued, Sorted}
use Rattle.queue_paths.specs.Names.{path}
use Rattle.queue_paths.specs.Names.Name.{Of}
use Rattle.queue_paths.specs.Names.Part.{Bounce, Info, Local as LocalFile, Mess, Remote as RemoteFile}
use Rattle.queue_paths.specs.Parts.{in_todo, parts_of}
use Rattle.queue_states.specs.declared.state.State.TheVariants.{S5}
use Rattle.queue_states.specs.States.{is_there, state_by, state_of, is_in_intd, is_in_todo}
use Rattle.send_core.specs.Table.{Next}
use Rattle.send_core.specs.declared.desk.Desk.{Desk}
use Rattle.send_parts.specs.declared.row.Row.{Row}
use Rattle.send_parts.specs.declared.row.Row.TheVariants as at
use Rattle.send_known.specs.Known.{is_known}
use Rattle.send_known.specs.declared.known.Known.{Known}
use Rattle.send_runs.proofs.Knowing.{known_exactly}
use Rattle.send_runs.specs.Knowing.{known_in}
use Rattle.world_events.specs.declared.event.Program.{Program}
use Rattle.mail_world.specs.History.{State, after, next_of}
use Rattle.mail_world.specs.Untouched.{queue}
use Rattle.world_law.proofs.Histories.{always}
use Rattle.world_law.proofs.Ran.{have_run}
use Rattle.world_law.specs.Inv.{Inv}
use Rattle.settle_law.proofs.FiledCalls.{some_of}
use Rattle.settle_law.proofs.MetAlways.{all_met}
use Rattle.settle_law.proofs.Passed.{passes_go_on}
use Rattle.settle_law.proofs.SmallNumbers.{numbers_are_small}
use Rattle.settle_law.specs.inside.Met.{Comes, IsFiled, PreprocessedAreKnown}
use Rattle.settle_law.specs.Rests.{BeginsTurn}
use Rattle.settle_law.specs.Suffices.{desk_of}

-- It has an info file and no todo file

files_of : (mess intd todo info local remote bounce : Bool) → state_by mess intd todo info local remote bounce ≡ S5 → (todo ≡ false) × (info ≡ true)
files_of false false false false false false false e = absurd (cc)
files_of true false false false false false false e = absurd (cc)
files_of true true false false false false false e = absurd (cc)
files_of true intd true info local remote false e = absurd (cc)
files_of true false false true local remote bounce e = (refl, refl)
files_of mess intd todo info local remote bounce e = absurd (cc)

none_of : (o : Option ℕ) → is_some o ≡ false → o ≡ None
none_of None e = refl
none_of (Some i) e = absurd (cc)

filed_of : (d : Disk) (n : ℕ) → state_of d n ≡ S5 → IsFiled d n
filed_of d n e =
    let w = files_of (is_there d Mess n) (is_in_intd d n) (is_in_todo d n) (is_there d Info n) (is_there d LocalFile n) (is_there d RemoteFile n) (is_there d Bounce n) e in
    (none_of (in_todo (parts_of d.names n)) w.0, w.1)

-- It is the message of an injection

living_of : (s : State) (n : ℕ) (role : ℕ → Role) → Phase (about (queue s role) n) → IsFiled s.disk n → (i : Injection) × (s.books.living n ≡ Some i)
living_of s n role (Free h) filed =
    let info = some_of (s.disk.names (path (Of Info n))) filed.1 in let here = find_some s.disk.names s.disk.files (Of Info n) info.0 info.1 in let gone = h.unsorted Info refl in absurd (cc)
living_of s n role (Queued h) filed = (h.taken.injection, h.taken.lives)
living_of s n role (Sorted h) filed = (h.taken.injection, h.taken.lives)
living_of s n role (Finished h) filed = (h.injection, h.lives)

-- One that the sender knows

known_one : (n : ℕ) (ks : List Known) → is_known n ks ≡ true → (k : Known) × Contains ks k × (k.n ≡ n)
known_one n [] e = absurd (cc)
known_one n (k ∷ ks) e = by (k.n == n) refl (known_one n ks) where
  by : (b : Bool) → (k.n == n) ≡ b → (is_known n ks ≡ true → (x : Known) × Contains ks x × (x.n ≡ n)) → (x : Known) × Contains (k ∷ ks) x × (x.n ≡ n)
  by true same rest = (k, (0, omega arith, refl), eqb-true k.n n same)
  by false other rest = let w = rest (sym (ap (λ (b : Bool). b || is_known n ks) other) ∙ e) in let within = w.1.1 in (w.0, (suc w.1.0, omega arith, w.1.2), w.2)

-- to none has a sender still to come that begins a turn
begins_none : (row : Row) (d : Desk) (n : ℕ) → BeginsTurn row → Comes row d n → ⊥
begins_none (at.Turn p) d n begins comes = comes
begins_none row d n begins comes = begins

pub preprocessed_are_known : PreprocessedAreKnown
preprocessed_are_known d h well a x start is alive program begins n e = ⊎_elim
    (λ (known : known_in x.past n ≡ true). known_one n (desk_of x.past).book.messages.known (known_exactly None x.past run n ∙ known))
    (λ (comes : Comes (desk_of x.past).row (desk_of x.past) n). absurd (begins_none (desk_of x.past).row (desk_of x.past) n begins comes))
    ((all_met d h well.legal a x is start program alive run (passes_go_on d h well a x start is program)).met n small.0 small.1 filed)
  where
    t : State
    t = after d h

    I : Inv t
    I = always d h well.legal

    run : IsRunBy (Next None) x.past
    run = subst (λ (p : Program). IsRunBy (next_of p) x.past) program (have_run d h well.legal a x is)

    filed : IsFiled t.disk n
    filed = filed_of t.disk n e

    lives : (i : Injection) × (t.books.living n ≡ Some i)
    lives = living_of t n I.role (I.sound.fine n) filed

    small : (1 ≤ n) × (n < 2 ^ 64)
    small = numbers_are_small d h well.legal well.well n lives.0 lives.1
