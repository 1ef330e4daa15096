-- What a past did outside, and one event more.
use Rattle.std.proofs.Common.{◌≡◌, ℕ, ◌≤◌, List, [], ◌∷◌, ◌++◌, Option, Some, None, refl, sym, ap, ◌∙◌, subst, ⊎_elim, arith, append_assoc}
use Rattle.call_fs.specs.declared.past.Own.{Own}
use Rattle.call_fs.specs.Disk.{Disk}
use Rattle.call_fs.specs.Past.{LeadsTo, Makes, Backs, calls_of, moments_of, latest_from, held, kept_as}
use Rattle.call_fs.proofs.Held.{backs_past}
use Rattle.mail_bytes.specs.Told.{Meets, OnTold, Records, Rose}
use Rattle.call_fs.specs.declared.program.Port.TheVariants as port
use Rattle.call_fs.specs.declared.past.NeedData.TheVariants.{Take}
use Rattle.program_runner.specs.Outside.{Outside, AreKept, Does, Takes, TakesEnd, EndsInput, Puts, taken_by}
use Rattle.program_runner.specs.Runs.{Did, taken_in, GivesInAll}

-- Lists that are kept

pub kept_none : {X : Type 0} (o : Option (List X)) → AreKept o o []
kept_none None = tt
kept_none (Some l) = sym (append-nil-right l) where
  append-nil-right : {X : Type 0} (l : List X) → l ++ [] ≡ l
  append-nil-right [] = refl
  append-nil-right (x ∷ l) = ap (λ t. x ∷ t) (append-nil-right l)

pub kept_more : {X : Type 0} (a b c : Option (List X)) (l m : List X) → AreKept a b l → AreKept b c m → AreKept a c (l ++ m)
kept_more a b None l m k r = tt
kept_more None None (Some n) l m k r = absurd r
kept_more None (Some x) (Some n) l m k r = absurd k
kept_more (Some o) None (Some n) l m k r = absurd r
kept_more (Some o) (Some x) (Some n) l m k r = r ∙ ap (λ t. t ++ m) k ∙ append_assoc o l m

pub kept_one : {X : Type 0} (a b : Option (List X)) (x : X) → Records a b x → AreKept a b (x ∷ [])
kept_one (Some old) (Some new) x r = r
kept_one told None x r = tt
kept_one None (Some new) x r = absurd r

-- What two steps do, one after the other

pub meets_then : {X : Type 0} (P Q R : X → X → Type 0) → ((x y z : X) → P x y → Q y z → R x z) → (a b c : Option X) → Meets a b P → Meets b c Q → Meets a c R
meets_then P Q R by (Some x) (Some y) (Some z) p q = by x y z p q
meets_then P Q R by None None None p q = tt
meets_then P Q R by (Some x) None c p q = absurd p
meets_then P Q R by None (Some y) c p q = absurd p
meets_then P Q R by (Some x) (Some y) None p q = absurd q
meets_then P Q R by None None (Some z) p q = absurd q

meets_same : {X : Type 0} (P : X → X → Type 0) → ((x : X) → P x x) → (a : Option X) → Meets a a P
meets_same P by None = tt
meets_same P by (Some x) = by x

rose_later : (a b c : ℕ) → Rose a b → b ≤ c → Rose a c
rose_later a b c r h = omega (arith, h, r)

rose_earlier : (a b c : ℕ) → a ≤ b → Rose b c → Rose a c
rose_earlier a b c h r = omega (arith, h, r)

le_later : (a b c : ℕ) → a ≤ b → b ≤ c → a ≤ c
le_later a b c h k = omega arith

-- Pasts

pub did_nothing : (start : ℕ) (o : Outside) → start ≤ o.last → Did start [] o o
did_nothing start o later = record {
  in_order = tt;
  later = later;
  calls = kept_none o.calls;
  moments = kept_none o.moments;
  disk = meets_same _ (λ d. refl) o.disk;
  disk_counts = omega arith;
  disk_cause = λ h. absurd h;
  left = meets_same _ (λ l. refl) o.left;
  over = λ h. absurd h;
  input_counts = omega arith;
  input_cause = λ h. absurd h;
  taken = meets_same _ (λ l. ([], refl, sym (nothing l))) o.taken;
  output_counts = omega arith;
  output_cause = λ h. absurd h;
} where
  nothing : (l : List ℕ) → l ++ [] ≡ l
  nothing [] = refl
  nothing (x ∷ l) = ap (λ t. x ∷ t) (nothing l)

takes_more : (past : List Own) (event : Own) (x y z : List ℕ) → x ≡ taken_in past ++ y → Takes event y z → x ≡ taken_in (event ∷ past) ++ z
takes_more past event x y z first next = first ∙ ap (λ t. taken_in past ++ t) next.0 ∙ sym (append_assoc (taken_in past) (taken_by event.due event.came) z)

nothing_left : (taken after : List ℕ) → [] ≡ taken ++ after → after ≡ []
nothing_left [] after is = sym is
nothing_left (x ∷ taken) after is = absurd (cc)

-- an input that is over stays so
stays_over : (event : Own) (a b : Option (List ℕ)) → OnTold a (λ left. left ≡ []) → Meets a b (Takes event) → OnTold b (λ left. left ≡ [])
stays_over event None None over took = tt
stays_over event (Some x) (Some y) over took = nothing_left (taken_by event.due event.came) y (sym over ∙ took.0)
stays_over event (Some x) None over took = tt
stays_over event None (Some y) over took = absurd took

ends_there : (event : Own) (a b : Option (List ℕ)) → TakesEnd event → Meets a b (Takes event) → OnTold b (λ left. left ≡ [])
ends_there event a None h took = tt
ends_there event (Some x) (Some y) h took =
    subst (λ c. EndsInput (Take port.Input) c y) h.came (subst (λ d. EndsInput d event.came y) h.due took.1)
ends_there event None (Some y) h took = absurd took

puts_more : (past : List Own) (event : Own) (x y z : List ℕ)
    → (given : List ℕ) × GivesInAll past given × (y ≡ x ++ given) → Puts event y z → (given : List ℕ) × GivesInAll (event ∷ past) given × (z ≡ x ++ given)
puts_more past event x y z (first, all, is) (more, gives, on) =
    (first ++ more, (first, more, all, gives, refl), on ∙ ap (λ t. t ++ more) is ∙ append_assoc x first more)

pub did_more : (start : ℕ) (past : List Own) (event : Own) (old mid new : Outside) → Did start past old mid → Does event mid new → Did start (event ∷ past) old new
did_more start past event old mid new d e = record {
  in_order = (le_later (latest_from start past) mid.last event.read d.later e.later, e.moment, d.in_order);
  later = subst (λ l. event.read ≤ l) (sym e.last) (omega arith);
  calls = kept_more old.calls mid.calls new.calls (calls_of past) (kept_as event.due event.came) d.calls e.calls;
  moments = kept_more old.moments mid.moments new.moments (moments_of past) (event.read ∷ []) d.moments (kept_one mid.moments new.moments event.read e.moments);
  disk = meets_then (λ before after. LeadsTo before past after) (λ before after. Makes before event.read event.due event.came after) (λ before after. LeadsTo before (event ∷ past) after)
      (λ x y z led made. (y, led, made)) old.disk mid.disk new.disk d.disk e.disk;
  disk_counts = le_later old.disk_faults mid.disk_faults new.disk_faults d.disk_counts e.disk_counts;
  disk_cause = ⊎_elim
      (λ h. rose_earlier old.disk_faults mid.disk_faults new.disk_faults d.disk_counts (e.disk_cause h))
      (λ h. rose_later old.disk_faults mid.disk_faults new.disk_faults (d.disk_cause h) e.disk_counts);
  left = meets_then (λ before after. before ≡ taken_in past ++ after) (Takes event) (λ before after. before ≡ taken_in (event ∷ past) ++ after)
      (takes_more past event) old.left mid.left new.left d.left e.left;
  over = ⊎_elim (λ h. ends_there event mid.left new.left h e.left) (λ h. stays_over event mid.left new.left (d.over h) e.left);
  input_counts = le_later old.input_faults mid.input_faults new.input_faults d.input_counts e.input_counts;
  input_cause = ⊎_elim
      (λ h. rose_earlier old.input_faults mid.input_faults new.input_faults d.input_counts (e.input_cause h))
      (λ h. rose_later old.input_faults mid.input_faults new.input_faults (d.input_cause h) e.input_counts);
  taken = meets_then (λ before after. (given : List ℕ) × GivesInAll past given × (after ≡ before ++ given)) (Puts event)
      (λ before after. (given : List ℕ) × GivesInAll (event ∷ past) given × (after ≡ before ++ given))
      (puts_more past event) old.taken mid.taken new.taken d.taken e.taken;
  output_counts = le_later old.output_faults mid.output_faults new.output_faults d.output_counts e.output_counts;
  output_cause = ⊎_elim
      (λ h. rose_earlier old.output_faults mid.output_faults new.output_faults d.output_counts (e.output_cause h))
      (λ h. rose_later old.output_faults mid.output_faults new.output_faults (d.output_cause h) e.output_counts);
}

-- what it holds open is open
pub open_after : (past : List Own) (a b : Option Disk) → Meets a b (λ before after. LeadsTo before past after) → OnTold b (λ d. Backs d (held past))
open_after past None None led = tt
open_after past (Some d) (Some e) led = backs_past d e past led
open_after past (Some d) None led = absurd led
open_after past None (Some e) led = absurd led
