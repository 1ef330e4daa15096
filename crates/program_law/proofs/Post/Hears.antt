-- The sender takes reports: each is of the attempt in flight in its slot.
use Rattle.std.proofs.Common.{◌≡◌, ◌≢◌, ℕ, ◌+◌, ◌≤◌, List, [], ◌∷◌, ◌++◌, Bool, true, false, ◌||◌, ◌==◌, if◌then◌else◌, Option, Some, None, refl, sym, ap, ◌∙◌, subst, ⊎_elim, arith}
use Rattle.std.proofs.lemmas.Bool.{cases_eq}
use Rattle.send_jobs.specs.declared.attempts.Attempt.{Attempt}
use Rattle.send_known.specs.declared.channel.Channel.{Channel}
use Rattle.send_known.specs.declared.channel.Channel.TheVariants as channel
use Rattle.send_jobs.specs.Slots.{attempt_in}
use Rattle.spawn_protocol.specs.declared.report.Report.{Report}
use Rattle.spawn_protocol.specs.declared.request.Request.{Request}
use Rattle.spawn_protocol.specs.Report.{Reader, counted, read_on}
use Rattle.spawner_parts.specs.declared.place.Place.{Place}
use Rattle.spawner_parts.specs.Counts.{asked, one}
use Rattle.spawner_parts.proofs.Tallies.{same_one}
use Rattle.program_law.specs.Post.Laws.{AreHeard, HearsKeep, IsHeard, IsTrueOf, WasDelivered}
use Rattle.program_law.specs.Post.Posts.{AllTell, Done, Fares, IsAskedFor, Post, Tells, WasDoneFor, busy, channel_of, freed, freed_all, goes_at, hears, most, told_of, work_of}
use Rattle.program_law.proofs.Post.Desks.{not_freed, was_in}
use Rattle.program_law.proofs.Post.Readings.{gives_more, holds_more, tell_last}
use Rattle.program_law.proofs.Post.Sums.{other_one}

-- how many a slot of a living sender has room for
abbrev room : Option Attempt → ℕ
room None = 0
room (Some a) = 1

room_is : (reader : Reader) (o : Option Attempt) → most true (Some reader) o ≡ room o
room_is reader None = refl
room_is reader (Some a) = refl

room_few : (o : Option Attempt) → room o ≤ 1
room_few None = omega arith
room_few (Some a) = omega arith

-- One report

success_by : (letter : ℕ) (b : Bool) → (if b then letter else 90) ≡ 75 → letter ≡ 75
success_by letter true is = is
success_by letter false is = absurd (omega (arith, is))

success_is : (letter : ℕ) → counted letter ≡ 75 → letter ≡ 75
success_is letter is = success_by letter (letter == 75 || letter == 68) is

delivered : (done : List Done) (slot : ℕ) (o : Option Request) (a : Attempt) → WasDoneFor done slot o → IsAskedFor o a → WasDelivered done slot a.address
delivered done slot None a h k = absurd h
delivered done slot (Some r) a h k = record { it = h.it; among = h.among; slot_is = h.slot_is; recipient_is = h.recipient ∙ k.0 }

module _ (done : List Done) (last : ℕ → Option Request) where
  true_of : (c : Channel) (r : Report) (a : Attempt) → Tells c done last r → IsAskedFor (last r.slot) a → IsTrueOf c done r a
  true_of channel.Local r a tells for_it = λ is. delivered done r.slot (last r.slot) a (tells (success_is r.letter is)) for_it
  true_of channel.Remote r a tells for_it = tt

  module _ (c : Channel) (in_hand : ℕ → ℕ) where
    -- there is room for these reports, and what is in flight is of the requests that were given last
    record Rooms (rs : List Report) (slots : List (Option Attempt)) : Type 0 where
      rooms : (slot : ℕ) → in_hand slot + told_of slot rs ≤ room (attempt_in slots slot)
      flies : (slot : ℕ) (a : Attempt) → attempt_in slots slot ≡ Some a → IsAskedFor (last slot) a

    no_room : (n o t : ℕ) → n + (o + t) ≤ 0 → o ≡ 1 → ⊥
    no_room n o t low own = omega (arith, low, own)

    heard_by : (o : Option Attempt) (r : Report) (rs : List Report) (slots : List (Option Attempt)) → attempt_in slots r.slot ≡ o → Rooms (r ∷ rs) slots → Tells c done last r → IsHeard c done r o
    heard_by None r rs slots is R tells =
        absurd (no_room (in_hand r.slot) (one r.slot r.slot) (told_of r.slot rs)
        (subst (λ (o : Option Attempt). in_hand r.slot + (one r.slot r.slot + told_of r.slot rs) ≤ room o) is (R.rooms r.slot)) (same_one r.slot))
    heard_by (Some a) r rs slots is R tells = true_of c r a tells (R.flies r.slot a is)

    -- after it was taken there is room for the others
    left_own : (n o t m k : ℕ) → n + (o + t) ≤ m → m ≤ 1 → o ≡ 1 → n + t ≤ k
    left_own n o t m k low few own = omega (arith, low, few, own)

    left_other : (n o t m k : ℕ) → n + (o + t) ≤ m → o ≡ 0 → k ≡ m → n + t ≤ k
    left_other n o t m k low none same = omega (arith, low, none, same)

    one_at : (slot k : ℕ) → slot ≡ k → one slot k ≡ 1
    one_at slot k e = ap (one slot) (sym e) ∙ same_one slot

    left : (r : Report) (rs : List Report) (slots : List (Option Attempt)) → Rooms (r ∷ rs) slots → Rooms rs (freed r slots)
    left r rs slots R = record {
      rooms = λ slot. ⊎_elim
          (λ (e : slot ≡ r.slot). left_own (in_hand slot) (one slot r.slot) (told_of slot rs) (room (attempt_in slots slot)) (room (attempt_in (freed r slots) slot))
          (R.rooms slot) (room_few (attempt_in slots slot)) (one_at slot r.slot e))
          (λ (apart : slot ≢ r.slot). left_other (in_hand slot) (one slot r.slot) (told_of slot rs) (room (attempt_in slots slot)) (room (attempt_in (freed r slots) slot))
          (R.rooms slot) (other_one slot r.slot apart) (ap room (not_freed slots r slot apart)))
          (cases_eq slot r.slot);
      flies = λ slot a is. R.flies slot a (was_in slots r slot a is);
    }

    -- one after the other
    all_heard : (rs more : List Report) (slots : List (Option Attempt)) → Rooms (rs ++ more) slots → AllTell c done last (rs ++ more) → AreHeard c done rs slots × Rooms more (freed_all rs slots)
    all_heard [] more slots R tells = (tt, R)
    all_heard (r ∷ rs) more slots R tells =
        let w = all_heard rs more (freed r slots) (left r (rs ++ more) slots R) tells.1 in
        ((heard_by (attempt_in slots r.slot) r (rs ++ more) slots refl R tells.0, w.0), w.1)

-- A taking

-- a sender that lives, has heard, and finds these bytes
abbrev finding : Reader → List ℕ → Post → Post
finding reader told x = record x { lives = true; heard = Some reader; told = told }

gathered : (w b t m : ℕ) → w + (b + t) ≤ m → (w + b) + t ≤ m
gathered w b t m low = omega (arith, low)

parted : (w b t m : ℕ) → (w + b) + t ≤ m → w + (b + t) ≤ m
parted w b t m low = omega (arith, low)

module _ (c : Channel) (p : Place) (reader : Reader) (bytes rest : List ℕ) (x : Post) (F : Fares c p (finding reader (bytes ++ rest) x)) where
  abbrev came : List Report
  came = (read_on reader bytes).0

  abbrev then_holds : Reader
  then_holds = (read_on reader bytes).1

  abbrev later : List Report
  later = (read_on then_holds rest).0

  abbrev holds : ℕ → ℕ
  holds slot = asked slot F.waits + busy (goes_at x.serves p.row) p.row p slot

  split : (read_on reader (bytes ++ rest)).0 ≡ came ++ later
  split = gives_more reader bytes rest

  well : AllTell c x.done x.last (came ++ later)
  well = subst (AllTell c x.done x.last) split F.well

  at_first : Rooms x.done x.last c holds (came ++ later) x.slots
  at_first = record {
    rooms = λ slot. gathered (asked slot F.waits) (busy (goes_at x.serves p.row) p.row p slot) (told_of slot (came ++ later)) (room (attempt_in x.slots slot))
        (subst (λ (n : ℕ). asked slot F.waits + (busy (goes_at x.serves p.row) p.row p slot + told_of slot (came ++ later)) ≤ n) (room_is reader (attempt_in x.slots slot))
        (subst (λ (rs : List Report). asked slot F.waits + (busy (goes_at x.serves p.row) p.row p slot + told_of slot rs) ≤ most true (Some reader) (attempt_in x.slots slot)) split (F.once slot)));
    flies = F.flies refl;
  }

  heard_all : AreHeard c x.done came x.slots × Rooms x.done x.last c holds later (freed_all came x.slots)
  heard_all = all_heard x.done x.last c holds came later x.slots at_first well

  heard_fares : Fares c p (hears reader bytes rest (finding reader (bytes ++ rest) x))
  heard_fares = record {
    waits = F.waits;
    asks = F.asks;
    lasts = F.lasts;
    stands = F.stands;
    run = F.run;
    tells = λ lives on. let w = F.tells refl on in (w.0, sym (holds_more reader bytes rest) ∙ w.1);
    well = tell_last c x.done x.last came later well;
    once = λ slot. parted (asked slot F.waits) (busy (goes_at x.serves p.row) p.row p slot) (told_of slot later) (most true (Some then_holds) (attempt_in (freed_all came x.slots) slot))
        (subst (λ (n : ℕ). (asked slot F.waits + busy (goes_at x.serves p.row) p.row p slot) + told_of slot later ≤ n) (sym (room_is then_holds (attempt_in (freed_all came x.slots) slot)))
        (heard_all.1.rooms slot));
    flies = λ lives slot a is. heard_all.1.flies slot a is;
  }

pub hears_keep : HearsKeep
hears_keep reader bytes rest x P lives heard told =
    let same : x ≡ finding reader (bytes ++ rest) x = λ i. record x { lives = lives i; heard = heard i; told = told i } in
    let F = subst (Fares (channel_of x.spawner) (work_of x.spawner)) same P.fares in
    record {
      keeps = record {
        fares = subst (λ (y : Post). Fares (channel_of x.spawner) (work_of x.spawner) (hears reader bytes rest y)) (sym same)
            (heard_fares (channel_of x.spawner) (work_of x.spawner) reader bytes rest x F);
        starts = P.starts;
      };
      each = (heard_all (channel_of x.spawner) (work_of x.spawner) reader bytes rest x F).0;
    }
