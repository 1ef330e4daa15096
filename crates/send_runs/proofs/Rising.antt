-- The numbers of the known messages rise.
use Rattle.std.proofs.Common.{◌≡◌, ℕ, zero, suc, ◌+◌, ◌<◌, ◌≤◌, List, [], ◌∷◌, ◌++◌, length, get_or, set, insert, filter, position, cond, Bool, true, false, not, Option, Some, None, refl, sym, ◌∙◌, subst, arith, eqb-true, eq-eqb}
use Rattle.std.specs.Prelude.{if◌then◌else◌, All, Contains, find, nat_le}
use Rattle.std.specs.List.{list_any}
use Rattle.std.specs.Option.{option_map}
use Rattle.std.proofs.lemmas.Bool.{leb-false, leb-true, or_left, or_right}
use Rattle.std.proofs.lemmas.List.Elements.{All-cons, All-weaker}
use Rattle.std.proofs.lemmas.List.Kept.{AllPairs-cons}
use Rattle.std.proofs.lemmas.List.Quantifiers.{position-Some}
use Rattle.call_fs.specs.declared.past.Own.{Own}
use Rattle.retry_schedule.specs.Due.{IsFirst, IsSchedule, first_due, is_due, moved, put, removed}
use Rattle.retry_schedule.proofs.Entries.{free_removed, head_first, none_first, schedule_added, schedule_removed}
use Rattle.send_core.proofs.Lists.{none_passes}
use Rattle.send_core.specs.Table.{place_after}
use Rattle.send_known.specs.declared.channel.Channel.{Channel}
use Rattle.send_known.specs.declared.channel.Channel.TheVariants.{Local, Remote}
use Rattle.send_jobs.specs.Tries.{due_on, due_then, file_gone}
use Rattle.send_known.specs.declared.known.Known.{Known}
use Rattle.send_known.specs.declared.messages.Messages.{Messages}
use Rattle.send_known.specs.Known as known
use Rattle.send_known.specs.Known.{first_idle, is_idle}
use Rattle.send_known.specs.Messages.{put_if}
use Rattle.send_runs.specs.Rising.{AreInOrder, AreRising, IsLeastIdle, KnownNumbersRise}
use Rattle.send_runs.proofs.Messages.{Keeps, of_past}

-- numbers that rise from this one on
abbrev pub RiseFrom : ℕ → List Known → Type 0
RiseFrom low [] = Unit {0}
RiseFrom low (k ∷ ks) = (low ≤ k.n) × RiseFrom (k.n + 1) ks

from_lower : (low high : ℕ) (ks : List Known) → low ≤ high → RiseFrom high ks → RiseFrom low ks
from_lower low high [] le h = tt
from_lower low high (k ∷ ks) le h = (let above : high ≤ k.n = h.0 in omega arith, h.1)

-- One is learned

above : (y k : Known) → known.is_from k.n y ≡ false → y.n + 1 ≤ k.n
above y k is = let lt : y.n < k.n = leb-false k.n y.n is in omega arith

rise_end : (low : ℕ) (k : Known) (ks : List Known) → (list_any (known.is_from k.n) ks ≡ true → ⊥) → low ≤ k.n → RiseFrom low ks → RiseFrom low (ks ++ k ∷ [])
rise_end low k [] none le h = (le, tt)
rise_end low k (y ∷ ks) none le h = (
  h.0,
  rise_end (y.n + 1) k ks (λ some. none (or_right (known.is_from k.n y) (list_any (known.is_from k.n) ks) some)) (above y k (by (known.is_from k.n y) refl)) h.1,
)
  where
    by : (b : Bool) → known.is_from k.n y ≡ b → known.is_from k.n y ≡ false
    by true is = absurd (none (or_left (known.is_from k.n y) (list_any (known.is_from k.n) ks) is))
    by false is = is

before : (y k : Known) → known.is_from k.n y ≡ true → known.is_of k.n y ≡ false → k.n + 1 ≤ y.n
before y k from not_of =
    let le : k.n ≤ y.n = leb-true k.n y.n from in
    let other : y.n ≡ k.n → ⊥ = (λ same. let bad : known.is_of k.n y ≡ true = eq-eqb y.n k.n same in absurd (cc (sym not_of ∙ bad))) in
    omega arith

rise_put : (b : Bool) (low : ℕ) (k : Known) (ks : List Known) (i : ℕ) → i < length ks → known.is_from k.n (get_or ks i k) ≡ true → ((j : ℕ) → j < i → known.is_from k.n (get_or ks j k) ≡ false)
    → known.is_of k.n (get_or ks i k) ≡ b → low ≤ k.n → RiseFrom low ks → RiseFrom low (if b then set ks i k else insert ks i k)
rise_put b low k [] i lt from below is le h = absurd (omega arith)
rise_put true low k (y ∷ ks) zero lt from below is le h = (le, subst (λ (n : ℕ). RiseFrom (n + 1) ks) (eqb-true y.n k.n is) h.1)
rise_put false low k (y ∷ ks) zero lt from below is le h = (le, (before y k from is, h.1))
rise_put true low k (y ∷ ks) (suc i) lt from below is le h = (h.0, rise_put true (y.n + 1) k ks i (omega arith) from (λ j lt. below (suc j) (omega arith)) is (above y k (below 0 (omega arith))) h.1)
rise_put false low k (y ∷ ks) (suc i) lt from below is le h = (h.0, rise_put false (y.n + 1) k ks i (omega arith) from (λ j lt. below (suc j) (omega arith)) is (above y k (below 0 (omega arith))) h.1)

pub rise_learned : (k : Known) (ks : List Known) (o : Option ℕ) → position (known.is_from k.n) ks ≡ o → RiseFrom 0 ks → RiseFrom 0 (known.learned_at o k ks)
rise_learned k ks None at h = rise_end 0 k ks (λ some. none_passes (known.is_from k.n) ks at some) (omega arith) h
rise_learned k ks (Some i) at h = let w = position-Some (known.is_from k.n) ks i k at in rise_put (known.is_of k.n (get_or ks i k)) 0 k ks i w.0 w.1 w.2 refl (omega arith) h

-- One is forgotten, or changed in all but its number

pub rise_filtered : (keeps : Known → Bool) (low : ℕ) (ks : List Known) → RiseFrom low ks → RiseFrom low (filter keeps ks)
rise_filtered keeps low [] h = tt
rise_filtered keeps low (k ∷ ks) h = by (keeps k) (rise_filtered keeps (k.n + 1) ks h.1) where
  by : (b : Bool) → RiseFrom (k.n + 1) (filter keeps ks) → RiseFrom low (cond b (k ∷ filter keeps ks) (filter keeps ks))
  by true rest = (h.0, rest)
  by false rest = let le : low ≤ k.n = h.0 in from_lower low (k.n + 1) (filter keeps ks) (omega arith) rest

rise_set : (low : ℕ) (ks : List Known) (i : ℕ) (y d : Known) → y.n ≡ (get_or ks i d).n → RiseFrom low ks → RiseFrom low (set ks i y)
rise_set low [] i y d same h = h
rise_set low (k ∷ ks) zero y d same h = (subst (λ (n : ℕ). low ≤ n) (sym same) h.0, subst (λ (n : ℕ). RiseFrom (n + 1) ks) (sym same) h.1)
rise_set low (k ∷ ks) (suc i) y d same h = (h.0, rise_set (k.n + 1) ks i y d same h.1)

pub rise_off : (moment : ℕ) (ks : List Known) (o : Option ℕ) → RiseFrom 0 ks → RiseFrom 0 (known.put_off_at o moment ks)
rise_off moment ks None h = h
rise_off moment ks (Some i) h = rise_set 0 ks i (record (get_or ks i known.nobody) { finish_at = moment }) known.nobody refl h

pub rise_local : (ks : List Known) (o : Option ℕ) → RiseFrom 0 ks → RiseFrom 0 (known.local_gone_at o ks)
rise_local ks None h = h
rise_local ks (Some i) h = rise_set 0 ks i (record (get_or ks i known.nobody) { local = false }) known.nobody refl h

pub rise_remote : (ks : List Known) (o : Option ℕ) → RiseFrom 0 ks → RiseFrom 0 (known.remote_gone_at o ks)
rise_remote ks None h = h
rise_remote ks (Some i) h = rise_set 0 ks i (record (get_or ks i known.nobody) { remote = false }) known.nobody refl h

-- What is due on a channel

due_put : (e : ℕ × ℕ) (es : List (ℕ × ℕ)) → IsSchedule es → IsSchedule (put e es)
due_put e es h = schedule_added e (removed e.1 es) (schedule_removed e.1 es h) (free_removed e.1 es)

due_if : (b : Bool) (e : ℕ × ℕ) (es : List (ℕ × ℕ)) → IsSchedule es → IsSchedule (put_if b e es)
due_if true e es h = due_put e es h
due_if false e es h = schedule_removed e.1 es h

due_moved : (e : ℕ × ℕ) (es : List (ℕ × ℕ)) → IsSchedule es → IsSchedule (moved e es)
due_moved e es h = by (is_due e.1 es) where
  by : (b : Bool) → IsSchedule (if b then put e es else es)
  by true = due_put e es h
  by false = h

none_due : IsSchedule []
none_due = record { order = λ i j d lt high. absurd (omega arith); one = λ i j d lt high. absurd (omega arith) }

-- Each change keeps both

abbrev Rises : Messages → Type 0
Rises m = RiseFrom 0 m.known × IsSchedule m.local × IsSchedule m.remote

rises_moved : (c : Channel) (n due : ℕ) (m : Messages) → Rises m → Rises (due_then c n due m)
rises_moved Local n due m h = (h.0, due_moved (due, n) m.local h.1, h.2)
rises_moved Remote n due m h = (h.0, h.1, due_moved (due, n) m.remote h.2)

rises_gone : (c : Channel) (n : ℕ) (m : Messages) → Rises m → Rises (file_gone c n m)
rises_gone Local n m h = (rise_local m.known (position (known.is_of n) m.known) h.0, schedule_removed n m.local h.1, h.2)
rises_gone Remote n m h = (rise_remote m.known (position (known.is_of n) m.known) h.0, h.1, schedule_removed n m.remote h.2)

keep : Keeps Rises
keep = record {
  none = (tt, none_due, none_due);
  learns = λ k due m h. (rise_learned k m.known (position (known.is_from k.n) m.known) refl h.0, due_if k.local (due, k.n) m.local h.1, due_if k.remote (due, k.n) m.remote h.2);
  moves = rises_moved;
  loses = rises_gone;
  delays = λ n moment m h. (rise_off moment m.known (position (known.is_of n) m.known) h.0, h.1, h.2);
  forgets = λ n m h. (rise_filtered (λ k. not (known.is_of n k)) 0 m.known h.0, schedule_removed n m.local h.1, schedule_removed n m.remote h.2);
}

-- What they say of the order

pub all_above : (low : ℕ) (ks : List Known) → RiseFrom low ks → All (λ (k : Known). low ≤ k.n) ks
all_above low [] h = λ k d lt. absurd (omega arith)
all_above low (k ∷ ks) h = let le : low ≤ k.n = h.0 in All-cons (λ (o : Known). low ≤ o.n) k ks le (all_above low ks (from_lower low (k.n + 1) ks (omega arith) h.1))

rising : (low : ℕ) (ks : List Known) → RiseFrom low ks → AreRising ks
rising low [] h = λ i j d lt high. absurd (omega arith)
rising low (k ∷ ks) h = AllPairs-cons (λ (a b : Known). a.n < b.n) k ks
    (All-weaker (λ (o : Known). k.n + 1 ≤ o.n) (λ (o : Known). k.n < o.n) (λ o le. omega arith) ks (all_above (k.n + 1) ks h.1)) (rising (k.n + 1) ks h.1)

in_tail : (k x : Known) (ks : List Known) → Contains ks x → Contains (k ∷ ks) x
in_tail k x ks h = (suc h.0, omega (arith, h.1), h.2)

least : (now low : ℕ) (ks : List Known) → RiseFrom low ks → IsLeastIdle now ks (first_idle now ks)
least now low [] h = λ k d lt. absurd (omega arith)
least now low (k ∷ ks) h = by (is_idle now k) refl (least now (k.n + 1) ks h.1) where
  later : (o : Option Known) → is_idle now k ≡ false → IsLeastIdle now ks (option_map (λ (x : Known). x.n) o) → IsLeastIdle now (k ∷ ks) (option_map (λ (x : Known). x.n) o)
  later None busy rest = All-cons (λ (o : Known). is_idle now o ≡ false) k ks busy rest
  later (Some x) busy rest = (
    (rest.0.0, in_tail k rest.0.0 ks rest.0.1, rest.0.2, rest.0.3),
    All-cons (λ (o : Known). is_idle now o ≡ true → x.n ≤ o.n) k ks (λ is. absurd (cc (sym busy ∙ is))) rest.1,
  )

  by : (b : Bool) → is_idle now k ≡ b → IsLeastIdle now ks (first_idle now ks)
      → IsLeastIdle now (k ∷ ks) (option_map (λ (x : Known). x.n) (cond b (Some k) (find (is_idle now) ks)))
  by true is rest = (
    (k, (0, omega arith, refl), refl, is),
    All-cons (λ (o : Known). is_idle now o ≡ true → k.n ≤ o.n) k ks (λ _. omega arith)
        (All-weaker (λ (o : Known). k.n + 1 ≤ o.n) (λ (o : Known). is_idle now o ≡ true → k.n ≤ o.n) (λ o le _. omega arith) ks (all_above (k.n + 1) ks h.1)),
  )
  by false is rest = later (find (is_idle now) ks) is rest

first_is : (now : ℕ) (es : List (ℕ × ℕ)) → IsSchedule es → IsFirst now es (first_due now es)
first_is now [] h = λ k d lt. absurd (omega arith)
first_is now (e ∷ es) h = by (nat_le e.0 now) refl where
  by : (b : Bool) → nat_le e.0 now ≡ b → IsFirst now (e ∷ es) (if b then Some e else None)
  by true is = head_first now e es h.order (leb-true e.0 now is)
  by false is = none_first now e es h.order (leb-false e.0 now is)

in_order : (m : Messages) → Rises m → AreInOrder m
in_order m h = record { known = rising 0 m.known h.0; least = λ now. least now 0 m.known h.0; due = due; first = λ c now. first_is now (due_on c m) (due c) } where
  due : (c : Channel) → IsSchedule (due_on c m)
  due Local = h.1
  due Remote = h.2

pub rise_past : (turns : Option ℕ) (past : List Own) → RiseFrom 0 (place_after turns past).book.messages.known
rise_past turns past = (of_past Rises keep turns past).0

pub known_numbers_rise : KnownNumbersRise
known_numbers_rise turns past = in_order (place_after turns past).book.messages (of_past Rises keep turns past)
