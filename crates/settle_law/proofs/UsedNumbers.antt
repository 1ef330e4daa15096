-- Which numbers of files are in use: those of the first disk, and those of files that were made since. So the least free one is no greater than
-- they are many.
use Rattle.std.proofs.Common.{◌≡◌, ◌≢◌, ⊎_elim, ℕ, zero, suc, ◌+◌, ◌<◌, ◌≤◌, List, [], ◌∷◌, ◌++◌, length, Bool, true, false, ◌||◌, Option, Some, None, refl, sym, ap, ◌∙◌, arith, bytes_eq}
use Rattle.std.specs.Prelude.{nat_eq, if◌then◌else◌, option_map}
use Rattle.std.specs.List.{AllByRecursion, IsDistinct}
use Rattle.std.specs.Set.{is_member}
use Rattle.std.proofs.lemmas.Bool.{eqb-true, false≢true}
use Rattle.std.proofs.lemmas.Cmp.{nat_eq_equiv}
use Rattle.std.proofs.lemmas.List.{length-append}
use Rattle.std.proofs.lemmas.Map.Made.{length-le_from_is_member}
use Rattle.call_fs.specs.declared.calls.Answer.{Answer}
use Rattle.call_fs.specs.declared.calls.Answer.TheVariants as told
use Rattle.call_fs.specs.declared.calls.CallData.{CallData}
use Rattle.call_fs.specs.declared.calls.CallData.TheVariants as call
use Rattle.call_fs.specs.declared.calls.FsError.TheVariants.{Fault}
use Rattle.call_fs.specs.declared.calls.How.{How}
use Rattle.call_fs.specs.declared.modes.Mode.{Mode}
use Rattle.call_fs.specs.declared.past.GotData.{GotData}
use Rattle.call_fs.specs.declared.past.GotData.TheVariants as came
use Rattle.call_fs.specs.declared.past.NeedData.{NeedData}
use Rattle.call_fs.specs.declared.past.NeedData.TheVariants as needs
use Rattle.call_fs.specs.declared.past.Own.{Own}
use Rattle.call_fs.specs.Apply.{changed, effect}
use Rattle.call_fs.specs.Disk.{Disk, File, IsUnused, Open}
use Rattle.call_fs.specs.Free.{IsLeastFree}
use Rattle.call_fs.specs.Maps.{put, put_at}
use Rattle.call_fs.proofs.Maps.{put_at_cases, put_cases}
use Rattle.mail_world.specs.History.{Actor, Event, Life, State, acted, after, disk_after, finished, happens, unless_by}
use Rattle.mail_world.specs.History.Event.{Start, Act, Child, Generation, Report, End, Stop, Moment, Halt}
use Rattle.mail_world.specs.History.Life.{Over, Stopped}

-- none of these numbers is this one
abbrev pub Lacks : List ℕ → ℕ → Type 0
Lacks numbers n = AllByRecursion (λ (m : ℕ). m ≢ n) numbers

-- the numbers of the files that are made by an answer, by an event and in a history
abbrev pub made_by : Answer → List ℕ
made_by (told.Created fd n) = n ∷ []
made_by other = []

abbrev pub made_in : GotData → List ℕ
made_in (came.Answered got) = made_by got.answer
made_in other = []

abbrev pub made_of : Event → List ℕ
made_of (Act a own wrote) = made_in own.came
made_of (Child parent own a program) = made_in own.came
made_of other = []

abbrev pub made : List Event → List ℕ
made [] = []
made (e ∷ before) = made_of e ++ made before

pub lacks_both : (one other : List ℕ) (n : ℕ) → Lacks (one ++ other) n → Lacks one n × Lacks other n
lacks_both [] other n lacks = (tt, lacks)
lacks_both (m ∷ one) other n lacks = let rest = lacks_both one other n lacks.1 in ((lacks.0, rest.0), rest.1)

-- Calls

renamed : (d : Disk) (n : ℕ) (name : List ℕ) (value : Option ℕ) → value ≢ Some n → IsUnused d n → (other : List ℕ) → put_at d.names name value other ≢ Some n
renamed d n name value far unused other is = ⊎_elim
    (λ c. far (sym c.1 ∙ is))
    (λ c. unused.unnamed other (sym c.1 ∙ is))
    (put_at_cases d.names name value other)

reopened : (d : Disk) (n fd : ℕ) (value : Option Open) → ((o : Open) → value ≡ Some o → o.number ≢ n) → IsUnused d n
    → (q : ℕ) (o : Open) → put d.opens fd value q ≡ Some o → o.number ≢ n
reopened d n fd value far unused q o is = ⊎_elim
    (λ c. far o (sym c.1 ∙ is))
    (λ c. unused.unopened q o (sym c.1 ∙ is))
    (put_cases d.opens fd value q)

same_open : (x o : Open) → ◌≡◌ {A = Option Open} (Some x) (Some o) → x ≡ o
same_open x o e = cc

opened_number : (how : How) (m : Option ℕ) (o : Open) → option_map (λ (n : ℕ). (let x : Open = record { number = n; mode = Mode.Opened how } in x)) m ≡ Some o → m ≡ Some o.number
opened_number how None o is = absurd (cc)
opened_number how (Some m) o is = ap (λ (x : Open). Some x.number) (same_open (record { number = m; mode = Mode.Opened how }) o is)

unused_changed : (d : Disk) (o : Option Open) (f : File → File) (n : ℕ) → IsUnused d n → IsUnused (changed d o f) n
unused_changed d None f n unused = unused
unused_changed d (Some o) f n unused = record { unnamed = unused.unnamed; unopened = unused.unopened }

pub same_number : (m n : ℕ) → ◌≡◌ {A = Option ℕ} (Some m) (Some n) → m ≡ n
same_number m n e = cc

unused_after : (d : Disk) (now : ℕ) (c : CallData) (got : Answer) (wrote n : ℕ) → Lacks (made_by got) n → IsUnused d n → IsUnused (effect d now c got wrote) n
unused_after d now (call.CreateExcl name) (told.Created fd m) wrote n lacks unused = record {
  unnamed = renamed d n name (Some m) (λ e. lacks.0 (same_number m n e)) unused;
  unopened = reopened d n fd.0 (Some (record { number = m; mode = Mode.Created }))
      (λ o is e. lacks.0 (ap (λ (x : Open). x.number) (same_open (record { number = m; mode = Mode.Created }) o is) ∙ e)) unused;
}
unused_after d now (call.Open name how) (told.Opened fd) wrote n lacks unused = record {
  unnamed = unused.unnamed;
  unopened = reopened d n fd.0 _ (λ o is e. unused.unnamed name (opened_number how (d.names name) o is ∙ ap Some e)) unused;
}
unused_after d now (call.WriteAt fd place bytes) told.Done wrote n lacks unused = unused_changed d (d.opens fd.0) _ n unused
unused_after d now (call.WriteAt fd place bytes) (told.Refused Fault) wrote n lacks unused = unused_changed d (d.opens fd.0) _ n unused
unused_after d now (call.Truncate fd len) told.Done wrote n lacks unused = unused_changed d (d.opens fd.0) _ n unused
unused_after d now (call.Append fd bytes) told.Done wrote n lacks unused = unused_changed d (d.opens fd.0) _ n unused
unused_after d now (call.Append fd bytes) (told.Refused Fault) wrote n lacks unused = unused_changed d (d.opens fd.0) _ n unused
unused_after d now (call.Sync fd) told.Done wrote n lacks unused = unused_changed d (d.opens fd.0) _ n unused
unused_after d now (call.Close fd) told.Done wrote n lacks unused = record {
  unnamed = unused.unnamed;
  unopened = reopened d n fd.0 None (λ o is. absurd (cc)) unused;
}
unused_after d now (call.Link old new) told.Done wrote n lacks unused = record { unnamed = renamed d n new (d.names old) (unused.unnamed old) unused; unopened = unused.unopened }
unused_after d now (call.Unlink name) told.Done wrote n lacks unused = record { unnamed = renamed d n name None (λ e. absurd (cc)) unused; unopened = unused.unopened }
unused_after d now c got wrote n lacks unused = unused

-- Events

unused_by : (d : Disk) (read : ℕ) (due : NeedData) (got : GotData) (wrote n : ℕ) → Lacks (made_in got) n → IsUnused d n → IsUnused (disk_after d read due got wrote) n
unused_by d read (needs.File c) (came.Answered got) wrote n lacks unused = unused_after d read c got.answer wrote n lacks unused
unused_by d read due got wrote n lacks unused = unused

unused_acted : (s : State) (a : List ℕ) (own : Own) (wrote : ℕ) (o : Option Actor) (n : ℕ) → Lacks (made_in own.came) n → IsUnused s.disk n → IsUnused (acted s a own wrote o).disk n
unused_acted s a own wrote None n lacks unused = unused
unused_acted s a own wrote (Some x) n lacks unused = unused_by s.disk own.read own.due own.came wrote n lacks unused

open_before : (a : List ℕ) (holder : Option (List ℕ)) (o : Option Open) (x : Open) → unless_by a holder o ≡ Some x → o ≡ Some x
open_before a None o x is = is
open_before a (Some b) o x is = by (bytes_eq b a) is
  where
    by : (same : Bool) → (if same then None else o) ≡ Some x → o ≡ Some x
    by true is = absurd (cc)
    by false is = is

unused_finished : (s : State) (a : List ℕ) (life : Life) (o : Option Actor) (n : ℕ) → IsUnused s.disk n → IsUnused (finished s a life o).disk n
unused_finished s a life None n unused = unused
unused_finished s a life (Some x) n unused = record {
  unnamed = unused.unnamed;
  unopened = λ fd o is. unused.unopened fd o (open_before a (s.holder fd) (s.disk.opens fd) o is);
}

unused_next : (s : State) (e : Event) (n : ℕ) → Lacks (made_of e) n → IsUnused s.disk n → IsUnused (happens s e).disk n
unused_next s (Start a program) n lacks unused = unused
unused_next s (Act a own wrote) n lacks unused = unused_acted s a own wrote (s.actors a) n lacks unused
unused_next s (Child parent own a program) n lacks unused = unused_acted s parent own 0 (s.actors parent) n lacks unused
unused_next s (Generation crew) n lacks unused = unused
unused_next s (Report slot output) n lacks unused = unused
unused_next s (End a read ready status) n lacks unused = unused_finished s a (Over status) (s.actors a) n unused
unused_next s (Stop a) n lacks unused = unused_finished s a Stopped (s.actors a) n unused
unused_next s (Moment m) n lacks unused = unused
unused_next s (Halt how contents) n lacks unused = record { unnamed = unused.unnamed; unopened = λ fd o is. absurd (cc) }

-- what nothing uses at first, and no file was made with, nothing uses
pub still_unused : (d : Disk) (h : List Event) (n : ℕ) → Lacks (made h) n → IsUnused d n → IsUnused (after d h).disk n
still_unused d [] n lacks unused = unused
still_unused d (e ∷ before) n lacks unused =
    let both = lacks_both (made_of e) (made before) n lacks in
    unused_next (after d before) e n both.0 (still_unused d before n both.1 unused)

one_by : (got : Answer) → length (made_by got) ≤ 1
one_by (told.Created fd n) = omega arith
one_by other = omega arith

one_in : (got : GotData) → length (made_in got) ≤ 1
one_in (came.Answered got) = one_by got.answer
one_in other = omega arith

one_of : (e : Event) → length (made_of e) ≤ 1
one_of (Act a own wrote) = one_in own.came
one_of (Child parent own a program) = one_in own.came
one_of other = omega arith

pub few_made : (h : List Event) → length (made h) ≤ length h
few_made [] = omega arith
few_made (e ∷ before) =
    let whole = length-append (made_of e) (made before) in
    let one = one_of e in
    let rest = few_made before in
    omega (arith, whole, one, rest)

-- The least free number

-- the numbers from this one down to 1
abbrev down_from : ℕ → List ℕ
down_from zero = []
down_from (suc k) = suc k ∷ down_from k

length_down : (k : ℕ) → length (down_from k) ≡ k
length_down zero = refl
length_down (suc k) = let rest = length_down k in omega (arith, rest)

record IsBetween (q k : ℕ) : Type 0 where
  low : 1 ≤ q
  high : q ≤ k

between : (k q : ℕ) → is_member nat_eq (down_from k) q ≡ true → IsBetween q k
between zero q e = absurd (cc)
between (suc k) q e = by (nat_eq q (suc k)) refl e (between k q)
  where
    by : (here : Bool) → nat_eq q (suc k) ≡ here → (here || is_member nat_eq (down_from k) q) ≡ true → (is_member nat_eq (down_from k) q ≡ true → IsBetween q k) → IsBetween q (suc k)
    by true is e rest = let same = eqb-true q (suc k) is in record { low = omega (arith, same); high = omega (arith, same) }
    by false is e rest = let low = (rest e).low in let high = (rest e).high in record { low = omega (arith, low); high = omega (arith, high) }

apart : (j y : ℕ) (here : Bool) → nat_eq j y ≡ here → y < j → here ≡ false
apart j y false is low = refl
apart j y true is low = let same = eqb-true j y is in absurd (omega (arith, same, low))

all_apart : (j k : ℕ) → k < j → AllByRecursion (λ (y : ℕ). nat_eq j y ≡ false) (down_from k)
all_apart j zero low = tt
all_apart j (suc k) low = (apart j (suc k) (nat_eq j (suc k)) refl low, all_apart j k (omega (arith, low)))

distinct_down : (k : ℕ) → IsDistinct nat_eq (down_from k)
unfolding IsDistinct
distinct_down zero = tt
distinct_down (suc k) = (all_apart (suc k) k (omega arith), distinct_down k)

lacks_more : (m : ℕ) (later : List ℕ) (n : ℕ) (here : Bool) → nat_eq n m ≡ here → (here || is_member nat_eq later n) ≡ false → (is_member nat_eq later n ≡ false → Lacks later n) → Lacks (m ∷ later) n
lacks_more m later n true is e rest = absurd (cc)
lacks_more m later n false is e rest = (λ same. false≢true (sym is ∙ (ap (λ (k : ℕ). nat_eq n k) same ∙ nat_eq_equiv.refl n)), rest e)

lacks_if : (numbers : List ℕ) (n : ℕ) → is_member nat_eq numbers n ≡ false → Lacks numbers n
lacks_if [] n e = tt
lacks_if (m ∷ later) n e = lacks_more m later n (nat_eq n m) refl e (lacks_if later n)

lacks_or_has : (numbers : List ℕ) (n : ℕ) (has : Bool) → is_member nat_eq numbers n ≡ has → (Lacks numbers n → ⊥) → has ≡ true
lacks_or_has numbers n true is never = refl
lacks_or_has numbers n false is never = absurd (never (lacks_if numbers n is))

-- if what isn't among some numbers is unused the least free one is no greater than one more than they are
pub least_few : (d : Disk) (numbers : List ℕ) (n : ℕ) → ((m : ℕ) → Lacks numbers m → IsUnused d m) → IsLeastFree d n → n ≤ length numbers + 1
least_few d numbers zero unused least = omega arith
least_few d numbers (suc k) unused least =
    let has : (q : ℕ) → is_member nat_eq (down_from k) q ≡ true → is_member nat_eq numbers q ≡ true = λ q e.
    let here = between k q e in
    let low = here.low in
    let high = here.high in
    lacks_or_has numbers q (is_member nat_eq numbers q) refl (λ lacks. least.least q (omega (arith, high)) (low, unused q lacks)) in
    let few = length-le_from_is_member nat_eq_equiv (down_from k) numbers (distinct_down k) has in
    let long = length_down k in
    omega (arith, few, long)
