-- Known messages were met, with their senders and births.
use Rattle.std.proofs.Common.{◌≡◌, ℕ, zero, suc, ◌+◌, ◌<◌, ◌≤◌, List, [], ◌∷◌, length, get_or, Bool, true, false, Some, refl, ap, ◌∙◌, arith, eqb-true, eq-eqb}
use Rattle.std.specs.Prelude.{◌==◌, if◌then◌else◌, All}
use Rattle.std.proofs.lemmas.List.Elements.{All-cons, All-nil}
use Rattle.retry_schedule.specs.Due.{is_due}
use Rattle.send_core.proofs.Asked.{Facts, KnowsAt}
use Rattle.send_core.proofs.Born.{first_birth}
use Rattle.send_core.proofs.Known.{Each, Sound}
use Rattle.send_core.proofs.Runs.{all_kept, facts}
use Rattle.send_core.specs.Agrees.{has_ended}
use Rattle.send_core.specs.Births.{births}
use Rattle.send_core.specs.Senders.{IsSaid}
use Rattle.send_core.specs.Table.{place_after}
use Rattle.send_core.specs.declared.desk.Desk.{Desk}
use Rattle.send_parts.specs.declared.row.Row.{Row}
use Rattle.send_parts.specs.declared.row.Row.TheVariants as at
use Rattle.send_known.specs.declared.channel.Channel.{Channel}
use Rattle.send_known.specs.declared.channel.Channel.TheVariants.{Local, Remote}
use Rattle.send_jobs.specs.Tries.{due_on}
use Rattle.send_known.specs.declared.known.Known.{Known}
use Rattle.send_known.specs.declared.messages.Messages.{Messages}
use Rattle.send_known.specs.Known.{is_known}
use Rattle.send_parts.specs.declared.rows.StartRow.TheVariants as start
use Rattle.send_runs.specs.Known.{KnownAreOfPast}
use Rattle.send_runs.proofs.Rising.{RiseFrom, all_above, rise_past}

sound_of : (S : ℕ → List ℕ → Type 0) (t : Facts) (row : Row) (d : Desk) → has_ended row ≡ false → KnowsAt S t row d → Sound S t.births.of d.book.messages
sound_of S t (at.Start (start.Control file reading)) d alive h = h.0
sound_of S t (at.Ended status) d alive h = absurd (cc)
sound_of S t row d alive h = h.0.0

all_said : (S : ℕ → List ℕ → Type 0) (ks : List Known) → Each S ks → All (λ (k : Known). S k.n k.sender) ks
all_said S [] h = All-nil (λ (k : Known). S k.n k.sender)
all_said S (k ∷ ks) h = All-cons (λ (x : Known). S x.n x.sender) k ks h.0 (all_said S ks h.1)

not_same : (b : Bool) → (b ≡ true → ⊥) → b ≡ false
not_same true h = absurd (h refl)
not_same false h = refl

-- each is the first of its number, as the numbers rise
first_of : (low : ℕ) (ks : List Known) (i : ℕ) (d : Known) → i < length ks → RiseFrom low ks → first_birth (get_or ks i d).n ks ≡ Some (get_or ks i d).birth
first_of low [] i d lt h = absurd (omega arith)
first_of low (k ∷ ks) zero d lt h = ap (λ (b : Bool). if b then Some k.birth else first_birth k.n ks) (eq-eqb k.n k.n refl)
first_of low (k ∷ ks) (suc i) d lt h =
    let inside : i < length ks = omega arith in
    let le : k.n + 1 ≤ (get_or ks i d).n = all_above (k.n + 1) ks h.1 i d inside in
    let other : (k.n == (get_or ks i d).n) ≡ false = not_same (k.n == (get_or ks i d).n) (λ same. let e : k.n ≡ (get_or ks i d).n = eqb-true k.n (get_or ks i d).n same in absurd (omega (arith, e, le))) in
    ap (λ (b : Bool). if b then Some k.birth else first_birth (get_or ks i d).n ks) other ∙ first_of (k.n + 1) ks i d inside h.1

pub known_are_of_past : KnownAreOfPast
known_are_of_past turns past run alive =
    let d : Desk = place_after turns past in
    let m : Messages = d.book.messages in
    let w : Sound (IsSaid past) (births past).of m = sound_of (IsSaid past) (facts past) d.row d alive (all_kept turns past run).1 in
    record {
      said = all_said (IsSaid past) m.known w.0;
      born = λ i k lt. w.3 (get_or m.known i k).n (get_or m.known i k).birth (first_of 0 m.known i k lt (rise_past turns past));
      due = due m w.1 w.2;
    }
  where
    due : (m : Messages) → ((n : ℕ) → is_due n m.local ≡ true → is_known n m.known ≡ true) → ((n : ℕ) → is_due n m.remote ≡ true → is_known n m.known ≡ true)
        → (c : Channel) (n : ℕ) → is_due n (due_on c m) ≡ true → is_known n m.known ≡ true
    due m f g Local n e = f n e
    due m f g Remote n e = g n e
