-- The requests of a sender, what it hears first, what is lost, and the begin of a generation.
use Rattle.std.proofs.Common.{◌≡◌, ◌≢◌, ℕ, ◌+◌, ◌<◌, ◌≤◌, List, [], ◌∷◌, ◌++◌, length, take, replicate, set, cond, Bool, true, false, Option, Some, None, refl, sym, ap, ◌∙◌, subst, ⊎_elim, arith, append_assoc}
use Rattle.std.specs.Prelude.{◌==◌}
use Rattle.std.proofs.lemmas.Bool.{cases_eq}
use Rattle.std.proofs.lemmas.List.{get_or_past, get_or-set_other, get_or-set_same}
use Rattle.call_fs.specs.Maps.{put}
use Rattle.call_fs.proofs.Maps.{put_same}
use Rattle.send_jobs.specs.declared.attempts.Attempt.{Attempt}
use Rattle.send_known.specs.declared.channel.Channel.{Channel}
use Rattle.send_known.specs.declared.channel.Channel.TheVariants as channel
use Rattle.send_jobs.specs.Slots.{IsLeastFree, attempt_in, lowest}
use Rattle.send_jobs.proofs.SlotLemmas.{lowest_is_least}
use Rattle.spawn_protocol.specs.declared.inbox.Intake.{Intake}
use Rattle.spawn_protocol.specs.declared.inbox.Intake.TheVariants as intake
use Rattle.spawn_protocol.specs.declared.report.Report.{Report}
use Rattle.spawn_protocol.specs.declared.request.Request.{Request}
use Rattle.spawn_protocol.specs.Report.{Reader, read_on}
use Rattle.spawn_protocol.specs.Report.Reader.{AtBegin}
use Rattle.spawn_protocol.specs.Request.{request_text}
use Rattle.spawner_parts.specs.declared.place.Place.{Place}
use Rattle.spawner_parts.specs.declared.row.Row.{Row}
use Rattle.spawner_parts.specs.declared.row.Row.TheVariants as at
use Rattle.spawner_parts.specs.Asked.{runs_in}
use Rattle.spawner_parts.specs.Counts.{asked, one, runs, times}
use Rattle.spawner_parts.specs.Table.{begun, greeting}
use Rattle.spawner_parts.proofs.Tallies.{asked_push, none_at_first}
use Rattle.local_spawn.specs.Table.{begun as local_begun}
use Rattle.program_law.specs.Post.Laws.{AsksKeep, GreetsKeep, LossesKeep, SlotsKeep, StartsPosted}
use Rattle.program_law.specs.Post.Posts.{AllTell, AreLast, AreRequests, Done, Fares, HasPlainFields, IsAskedFor, IsToldSo, Post, Posted, RunFor, Spawner, Task, Waits, asks_for, asks_in_part, busy, channel_of, fresh, goes_at, greeted, in_hand, loses, most, owed_at, reports_by, stops, told_of, work_of}
use Rattle.program_law.specs.Post.Posts.IsPart.{Nothing}
use Rattle.program_law.specs.Post.Posts.Spawner.{Local, Remote}
use Rattle.program_law.proofs.Post.Frames.{all_tell_put, at_put, lasts_put, later_is, living, most_few, run_put, told_off}
use Rattle.program_law.proofs.Post.Sums.{other_one}
use Rattle.program_law.proofs.Post.Texts.{cut_more, left_so, one_more, whole_or_part}

-- One more request in the pipe

record OneMore (g : Bool) (i : Intake) (lives : Bool) (ahead given : List ℕ) (last : ℕ → Option Request) (r : Request) (waits : List Request) : Type 0 where
  still : List Request
  asks : Waits g i lives ahead given still
  lasts : AreLast (put last r.slot (Some r)) still
  count : (slot : ℕ) → asked slot still ≤ asked slot waits + one slot r.slot

lasts_push : (last : ℕ → Option Request) (r : Request) (waits : List Request) → HasPlainFields r → last r.slot ≡ Some r → AreLast last waits → AreLast last (waits ++ r ∷ [])
lasts_push last r [] plain is h = (is, plain, tt)
lasts_push last r (w ∷ waits) plain is h = (h.0, h.1, lasts_push last r waits plain is h.2)

module _ (ahead given : List ℕ) (last : ℕ → Option Request) (r : Request) (waits : List Request) (plain : HasPlainFields r) (low : asked r.slot waits ≤ 0) (lasts : AreLast last waits) where
  pushed : AreLast (put last r.slot (Some r)) (waits ++ r ∷ [])
  pushed = lasts_push (put last r.slot (Some r)) r waits plain (put_same last r.slot (Some r)) (lasts_put last r.slot r waits low lasts)

  push_count : (slot : ℕ) → asked slot (waits ++ r ∷ []) ≤ asked slot waits + one slot r.slot
  push_count slot = sum (asked slot (waits ++ r ∷ [])) (asked slot waits) (one slot r.slot) (asked_push slot waits r)
    where
      sum : (n w o : ℕ) → n ≡ o + w → n ≤ w + o
      sum n w o e = omega (arith, e)

  same_count : (slot : ℕ) → asked slot waits ≤ asked slot waits + one slot r.slot
  same_count slot = sum (asked slot waits) (one slot r.slot)
    where
      sum : (w o : ℕ) → w ≤ w + o
      sum w o = omega arith

  no_count : (slot : ℕ) → 0 ≤ asked slot waits + one slot r.slot
  no_count slot = sum (asked slot waits) (one slot r.slot)
    where
      sum : (w o : ℕ) → 0 ≤ w + o
      sum w o = omega arith

  joined : (h : AreRequests true (ahead ++ given) waits) → AreRequests true (ahead ++ (given ++ request_text r)) (waits ++ r ∷ [])
  joined h = subst (λ (bytes : List ℕ). AreRequests true bytes (waits ++ r ∷ [])) (append_assoc ahead given (request_text r)) (one_more (ahead ++ given) waits r h)

  whole_given : (g : Bool) (i : Intake) → Waits g i true ahead given waits → OneMore g i true ahead (given ++ request_text r) last r waits
  whole_given true intake.Open h = record { still = waits ++ r ∷ []; asks = joined h; lasts = pushed; count = push_count }
  whole_given true intake.Ended h = record { still = []; asks = (refl, h.1); lasts = tt; count = no_count }
  whole_given true intake.TooLong h = record { still = []; asks = (refl, h.1); lasts = tt; count = no_count }
  whole_given false i h = record { still = []; asks = refl; lasts = tt; count = no_count }

  module _ (wrote : ℕ) where
    part_open : AreRequests true (ahead ++ given) waits → OneMore true intake.Open false ahead (given ++ take wrote (request_text r)) last r waits
    part_open h = ⊎_elim
        (λ (all : take wrote (request_text r) ≡ request_text r). record {
          still = waits ++ r ∷ [];
          asks = subst (λ (text : List ℕ). AreRequests false (ahead ++ (given ++ text)) (waits ++ r ∷ [])) (sym all)
              (left_so true (ahead ++ (given ++ request_text r)) (waits ++ r ∷ []) (joined h));
          lasts = pushed;
          count = push_count;
        })
        (λ (less : wrote < length (request_text r)). record {
          still = waits;
          asks = subst (λ (bytes : List ℕ). AreRequests false bytes waits) (append_assoc ahead given (take wrote (request_text r)))
              (cut_more (ahead ++ given) waits r wrote plain less h);
          lasts = lasts_put last r.slot r waits low lasts;
          count = same_count;
        })
        (whole_or_part (request_text r) wrote)

    part_given : (g : Bool) (i : Intake) → Waits g i true ahead given waits → OneMore g i false ahead (given ++ take wrote (request_text r)) last r waits
    part_given true intake.Open h = part_open h
    part_given true intake.Ended h = record { still = []; asks = (refl, h.1); lasts = tt; count = no_count }
    part_given true intake.TooLong h = record { still = []; asks = (refl, h.1); lasts = tt; count = no_count }
    part_given false i h = record { still = []; asks = refl; lasts = tt; count = no_count }

-- Counting

none_of : (a b d m : ℕ) → a + (b + d) ≤ m → m ≡ 0 → (a ≤ 0) × ((b ≤ 0) × (d ≤ 0))
none_of a b d m low e = (omega (arith, low, e), (omega (arith, low, e), omega (arith, low, e)))

none_both : (a b : ℕ) → a + b ≤ 0 → (a ≤ 0) × (b ≤ 0)
none_both a b low = (omega (arith, low), omega (arith, low))

-- here one comes into hand, where none was
count_here : (s w o b m n : ℕ) → s ≤ w + o → o ≤ 1 → w + b ≤ m → m ≡ 0 → n ≡ 1 → s + b ≤ n
count_here s w o b m n more few low none room = omega (arith, more, few, low, none, room)

-- and there it is as it was
count_there : (s w o b m n : ℕ) → s ≤ w + o → o ≡ 0 → w + b ≤ m → n ≡ m → s + b ≤ n
count_there s w o b m n more none low same = omega (arith, more, none, low, same)

-- of a sender that is gone no report is in hand
lost_here : (s w o b t m : ℕ) → s ≤ w + o → o ≤ 1 → w + (b + t) ≤ m → m ≡ 0 → s + (b + 0) ≤ 1
lost_here s w o b t m more few low none = omega (arith, more, few, low, none)

lost_there : (s w o b t m : ℕ) → s ≤ w + o → o ≡ 0 → w + (b + t) ≤ m → m ≤ 1 → s + (b + 0) ≤ 1
lost_there s w o b t m more none low few = omega (arith, more, none, low, few)

few_by : (b : Bool) → cond b 1 0 ≤ 1
few_by true = omega arith
few_by false = omega arith

one_few : (slot k : ℕ) → one slot k ≤ 1
one_few slot k = few_by (k == slot)

-- A sender that gives

module _ (c : Channel) (p : Place) (reader : Reader) (r : Request) (x : Post) (F : Fares c p (living reader x)) (low : lowest x.slots ≡ Some r.slot) (plain : HasPlainFields r) where
  least : IsLeastFree x.slots (Some r.slot)
  least = subst (IsLeastFree x.slots) low (lowest_is_least x.slots)

  abbrev g : Bool
  g = goes_at x.serves p.row

  abbrev room : ℕ → ℕ
  room slot = most true (Some reader) (attempt_in x.slots slot)

  no_room : room r.slot ≡ 0
  no_room = ap (most true (Some reader)) least.1

  abbrev read : List Report
  read = (read_on reader x.told).0

  none : (asked r.slot F.waits ≤ 0) × ((busy g p.row p r.slot ≤ 0) × (told_of r.slot read ≤ 0))
  none = none_of (asked r.slot F.waits) (busy g p.row p r.slot) (told_of r.slot read) (room r.slot) (F.once r.slot) no_room

  idle : g ≡ true → (times r.slot (owed_at p.row p) ≤ 0) × (runs r.slot p.running ≤ 0)
  idle on = none_both (times r.slot (owed_at p.row p)) (runs r.slot p.running) (subst (λ (b : Bool). busy b p.row p r.slot ≤ 0) on none.1.0)

  module _ (a : Attempt) (is_for : IsAskedFor (Some r) a) where
    here : attempt_in (set x.slots r.slot (Some a)) r.slot ≡ Some a
    here = get_or-set_same x.slots r.slot (Some a) None least.0

    there : (slot : ℕ) → slot ≢ r.slot → attempt_in (set x.slots r.slot (Some a)) slot ≡ attempt_in x.slots slot
    there slot apart = get_or-set_other x.slots r.slot slot (Some a) None apart

    flies_here : (slot : ℕ) (b : Attempt) → slot ≡ r.slot → attempt_in (set x.slots r.slot (Some a)) slot ≡ Some b → IsAskedFor (put x.last r.slot (Some r) slot) b
    flies_here slot b e is =
        let both : Some a ≡ Some b = sym here ∙ ap (attempt_in (set x.slots r.slot (Some a))) (sym e) ∙ is in
        let same : a ≡ b = cc in
        subst (λ (o : Option Request). IsAskedFor o b) (sym (ap (put x.last r.slot (Some r)) e ∙ put_same x.last r.slot (Some r))) (subst (IsAskedFor (Some r)) same is_for)

    flies_there : (slot : ℕ) (b : Attempt) → slot ≢ r.slot → attempt_in (set x.slots r.slot (Some a)) slot ≡ Some b → IsAskedFor (put x.last r.slot (Some r) slot) b
    flies_there slot b apart is =
        subst (λ (o : Option Request). IsAskedFor o b) (sym (later_is x.last r.slot r slot apart)) (F.flies refl slot b (sym (there slot apart) ∙ is))

    given_whole : Fares c p (asks_for a r (living reader x))
    given_whole =
        let w = whole_given p.inbox.ahead x.asked x.last r F.waits plain none.0 F.lasts g p.inbox.intake F.asks in
        record {
          waits = w.still;
          asks = w.asks;
          lasts = w.lasts;
          stands = λ on. at_put x.last r.slot r c x.done p.row p (idle on).0 (F.stands on);
          run = λ on. run_put x.last r.slot r c p.running x.tasks (idle on).1 (F.run on);
          tells = F.tells;
          well = all_tell_put x.last r.slot r c x.done read none.1.1 F.well;
          once = λ slot. ⊎_elim
              (λ (e : slot ≡ r.slot). count_here (asked slot w.still) (asked slot F.waits) (one slot r.slot) (busy g p.row p slot + told_of slot read) (room slot)
              (most true (Some reader) (attempt_in (set x.slots r.slot (Some a)) slot)) (w.count slot) (one_few slot r.slot) (F.once slot) (ap room e ∙ no_room)
              (ap (λ s. most true (Some reader) (attempt_in (set x.slots r.slot (Some a)) s)) e ∙ ap (most true (Some reader)) here))
              (λ (apart : slot ≢ r.slot). count_there (asked slot w.still) (asked slot F.waits) (one slot r.slot) (busy g p.row p slot + told_of slot read) (room slot)
              (most true (Some reader) (attempt_in (set x.slots r.slot (Some a)) slot)) (w.count slot) (other_one slot r.slot apart) (F.once slot)
              (ap (most true (Some reader)) (there slot apart)))
              (cases_eq slot r.slot);
          flies = λ lives slot b is. ⊎_elim (λ (e : slot ≡ r.slot). flies_here slot b e is) (λ (apart : slot ≢ r.slot). flies_there slot b apart is) (cases_eq slot r.slot);
        }

  given_in_part : (wrote : ℕ) → Fares c p (asks_in_part r wrote (living reader x))
  given_in_part wrote =
      let w = part_given p.inbox.ahead x.asked x.last r F.waits plain none.0 F.lasts wrote g p.inbox.intake F.asks in
      record {
        waits = w.still;
        asks = w.asks;
        lasts = w.lasts;
        stands = λ on. at_put x.last r.slot r c x.done p.row p (idle on).0 (F.stands on);
        run = λ on. run_put x.last r.slot r c p.running x.tasks (idle on).1 (F.run on);
        tells = λ lives. absurd (cc);
        well = tt;
        once = λ slot. ⊎_elim
            (λ (e : slot ≡ r.slot). lost_here (asked slot w.still) (asked slot F.waits) (one slot r.slot) (busy g p.row p slot) (told_of slot read) (room slot)
            (w.count slot) (one_few slot r.slot) (F.once slot) (ap room e ∙ no_room))
            (λ (apart : slot ≢ r.slot). lost_there (asked slot w.still) (asked slot F.waits) (one slot r.slot) (busy g p.row p slot) (told_of slot read) (room slot)
            (w.count slot) (other_one slot r.slot apart) (F.once slot) (most_few true (Some reader) (attempt_in x.slots slot)))
            (cases_eq slot r.slot);
        flies = λ lives slot b is. absurd (cc);
      }

-- a sender that lives, and has heard
lives_so : (reader : Reader) (x : Post) → x.lives ≡ true → x.heard ≡ Some reader → x ≡ living reader x
lives_so reader x lives heard = λ i. record x { lives = lives i; heard = heard i }

pub asks_keep : AsksKeep
asks_keep = record {
  whole = λ reader a r x P lives heard low plain is_for of.
      let same = lives_so reader x lives heard in
      record {
        fares = subst (λ (y : Post). Fares (channel_of x.spawner) (work_of x.spawner) (asks_for a r y)) (sym same)
            (given_whole (channel_of x.spawner) (work_of x.spawner) reader r x (subst (Fares (channel_of x.spawner) (work_of x.spawner)) same P.fares) low plain a (is_for, of));
        starts = P.starts;
      };
  part = λ reader r wrote x P lives heard low plain.
      let same = lives_so reader x lives heard in
      record {
        fares = subst (λ (y : Post). Fares (channel_of x.spawner) (work_of x.spawner) (asks_in_part r wrote y)) (sym same)
            (given_in_part (channel_of x.spawner) (work_of x.spawner) reader r x (subst (Fares (channel_of x.spawner) (work_of x.spawner)) same P.fares) low plain wrote);
        starts = P.starts;
      };
}

-- What a sender hears first

not_greet : (on : Bool) (row : Row) (told : List ℕ) → told ≢ [] → IsToldSo None on row told → (row ≢ at.Greet) × (told ≡ greeting)
not_greet on at.Greet told some h = absurd (some h)
not_greet on row told some h = (λ e. cc, ⊎_elim (λ (none : told ≡ []). absurd (some none)) (λ (is : told ≡ greeting). is) h)

abbrev first : List ℕ → ℕ
first [] = 0
first (b ∷ bs) = b

abbrev after_first : List ℕ → List ℕ
after_first [] = []
after_first (b ∷ bs) = bs

none_left : (b : ℕ) (bs rest : List ℕ) → bs ++ rest ≡ [] → b ≡ 120 → (b ∷ bs ≡ greeting) × (rest ≡ [])
none_left b [] rest e is = (ap (λ n. n ∷ []) is, e)
none_left b (d ∷ bs) rest e is = absurd (cc)

one_byte : (bytes rest : List ℕ) → bytes ≢ [] → bytes ++ rest ≡ greeting → (bytes ≡ greeting) × (rest ≡ [])
one_byte [] rest some e = absurd (some refl)
one_byte (b ∷ bs) rest some e = none_left b bs rest (ap after_first e) (ap first e)

some_more : (bytes rest : List ℕ) → bytes ≢ [] → bytes ++ rest ≢ []
some_more [] rest some e = some refl
some_more (b ∷ bs) rest some e = cc

-- a sender that lives, and hasn't heard
abbrev deaf : List ℕ → Post → Post
deaf told x = record x { lives = true; heard = None; told = told }

no_told : (w b t m n : ℕ) → w + (b + 0) ≤ m → m ≡ 0 → t ≡ 0 → w + (b + t) ≤ n
no_told w b t m n low none e = omega (arith, low, none, e)

module _ (c : Channel) (p : Place) (x : Post) (bytes rest : List ℕ) (F : Fares c p (deaf (bytes ++ rest) x)) (some : bytes ≢ []) where
  heard_first : (p.row ≢ at.Greet) × (bytes ++ rest ≡ greeting)
  heard_first = not_greet (goes_at x.serves p.row) p.row (bytes ++ rest) (some_more bytes rest some) (F.tells refl)

  pub first_byte : (bytes ≡ greeting) × (rest ≡ [])
  first_byte = one_byte bytes rest some heard_first.1

  pub greets_fares : Fares c p (greeted rest (deaf (bytes ++ rest) x))
  greets_fares = record {
    waits = F.waits;
    asks = F.asks;
    lasts = F.lasts;
    stands = F.stands;
    run = F.run;
    tells = λ lives on. (heard_first.0, ap (λ (t : List ℕ). (read_on AtBegin t).1) first_byte.1);
    well = subst (λ (t : List ℕ). AllTell c x.done x.last (read_on AtBegin t).0) (sym first_byte.1) tt;
    once = λ slot. no_told (asked slot F.waits) (busy (goes_at x.serves p.row) p.row p slot) (told_of slot (read_on AtBegin rest).0) (most true None (attempt_in x.slots slot))
        (most true (Some AtBegin) (attempt_in x.slots slot)) (F.once slot) refl (ap (λ (t : List ℕ). told_of slot (read_on AtBegin t).0) first_byte.1);
    flies = F.flies;
  }

pub greets_keep : GreetsKeep
greets_keep bytes rest x P lives heard told some =
    let same : x ≡ deaf (bytes ++ rest) x = λ i. record x { lives = lives i; heard = heard i; told = told i } in
    let F = subst (Fares (channel_of x.spawner) (work_of x.spawner)) same P.fares in
    let w = first_byte (channel_of x.spawner) (work_of x.spawner) x bytes rest F some in
    record {
      keeps = record {
        fares = subst (λ (y : Post). Fares (channel_of x.spawner) (work_of x.spawner) (greeted rest y)) (sym same) (greets_fares (channel_of x.spawner) (work_of x.spawner) x bytes rest F some);
        starts = P.starts;
      };
      byte = w.0;
      all = w.1;
    }

-- The sender's slots

pub slots_keep : SlotsKeep
slots_keep slots x P same = record {
  fares = record {
    waits = P.fares.waits;
    asks = P.fares.asks;
    lasts = P.fares.lasts;
    stands = P.fares.stands;
    run = P.fares.run;
    tells = P.fares.tells;
    well = P.fares.well;
    once = λ slot. subst (λ (o : Option Attempt). in_hand P.fares.waits (work_of x.spawner) x slot ≤ most x.lives x.heard o) (sym (same slot)) (P.fares.once slot);
    flies = λ lives slot a is. P.fares.flies lives slot a (sym (same slot) ∙ is);
  };
  starts = P.starts;
}

-- Losses

pub waits_left : (g : Bool) (i : Intake) (lives : Bool) (ahead given : List ℕ) (waits : List Request) → Waits g i lives ahead given waits → Waits g i false ahead given waits
waits_left true intake.Open lives ahead given waits h = left_so lives (ahead ++ given) waits h
waits_left true intake.Ended lives ahead given waits h = h
waits_left true intake.TooLong lives ahead given waits h = h
waits_left false i lives ahead given waits h = h

pub untold : (w b t m : ℕ) → w + (b + t) ≤ m → m ≤ 1 → w + (b + 0) ≤ 1
untold w b t m low few = omega (arith, low, few)

unasked : (w b t m : ℕ) → w + (b + t) ≤ m → 0 + (0 + t) ≤ m
unasked w b t m low = omega (arith, low)

pub lost : (x : Post) → Posted x → Posted (loses x)
lost x P =
    let p = work_of x.spawner in
    let F = P.fares in
    record {
      fares = record {
        waits = F.waits;
        asks = waits_left (goes_at x.serves p.row) p.inbox.intake x.lives p.inbox.ahead x.asked F.waits F.asks;
        lasts = F.lasts;
        stands = F.stands;
        run = F.run;
        tells = λ lives. absurd (cc);
        well = tt;
        once = λ slot. untold (asked slot F.waits) (busy (goes_at x.serves p.row) p.row p slot) (told_of slot (reports_by x.lives x.heard x.told)) (most x.lives x.heard (attempt_in x.slots slot))
            (F.once slot) (most_few x.lives x.heard (attempt_in x.slots slot));
        flies = λ lives slot a is. absurd (cc);
      };
      starts = P.starts;
    }

stopped : (x : Post) → Posted x → Posted (stops x)
stopped x P =
    let p = work_of x.spawner in
    let F = P.fares in
    record {
      fares = record {
        waits = [];
        asks = refl;
        lasts = tt;
        stands = λ on. absurd (cc);
        run = λ on. absurd (cc);
        tells = λ lives. told_off x.heard (goes_at x.serves p.row) p.row x.told (F.tells lives);
        well = F.well;
        once = λ slot. unasked (asked slot F.waits) (busy (goes_at x.serves p.row) p.row p slot) (told_of slot (reports_by x.lives x.heard x.told)) (most x.lives x.heard (attempt_in x.slots slot))
            (F.once slot);
        flies = F.flies;
      };
      starts = λ serves. absurd (cc);
    }

-- nobody lives
abbrev over : Post → Post
over x = record x { lives = false; serves = false }

over_posted : (x : Post) → Posted (over x)
over_posted x = record {
  fares = record {
    waits = [];
    asks = refl;
    lasts = tt;
    stands = λ on. absurd (cc);
    run = λ on. absurd (cc);
    tells = λ lives. absurd (cc);
    well = tt;
    once = λ slot. few;
    flies = λ lives slot a is. absurd (cc);
  };
  starts = λ serves. absurd (cc);
}
  where
    few : 0 + (0 + 0) ≤ 1
    few = omega arith

pub losses_keep : LossesKeep
losses_keep = record {
  lost = lost;
  stopped = stopped;
  gone = λ x lives serves.
      let same : x ≡ over x = λ i. record x { lives = lives i; serves = serves i } in
      subst Posted (sym same) (over_posted x);
}

-- The begin

none_run : (slot : ℕ) → runs_in begun.running slot ≡ true → ⊥
none_run slot is =
    let v : runs slot (replicate 120 false) ≡ 1 = ap (λ b. cond b 1 0) is in
    clash (runs slot (replicate 120 false)) v (none_at_first slot)
  where
    clash : (n : ℕ) → n ≡ 1 → n ≡ 0 → ⊥
    clash n a b = omega (arith, a, b)

first_run : (c : Channel) (tasks : ℕ → Option Task) (last : ℕ → Option Request) → RunFor c begun.running tasks last
first_run channel.Local tasks last = λ slot is. absurd (none_run slot is)
first_run channel.Remote tasks last = tt

first_fares : (c : Channel) (s : Spawner) (tasks : ℕ → Option Task) (last : ℕ → Option Request) (done : List Done) → Fares c begun (fresh s tasks last done)
first_fares c s tasks last done = record {
  waits = [];
  asks = record { tail = []; text = refl; part = Nothing refl; whole = λ lives. refl };
  lasts = tt;
  stands = λ on. tt;
  run = λ on. first_run c tasks last;
  tells = λ lives. refl;
  well = tt;
  once = λ slot. few (runs slot (replicate 120 false)) (none_at_first slot);
  flies = λ lives slot a is. let none : attempt_in [] slot ≡ None = get_or_past [] slot None (omega arith) in absurd (cc);
}
  where
    few : (n : ℕ) → n ≡ 0 → 0 + ((0 + n) + 0) ≤ 0
    few n e = omega (arith, e)

pub starts_posted : StartsPosted
starts_posted tasks last done = (
  record { fares = first_fares channel.Local (Local local_begun) tasks last done; starts = λ serves row. absurd (cc) },
  record { fares = first_fares channel.Remote (Remote begun) tasks last done; starts = λ serves. tt },
)
