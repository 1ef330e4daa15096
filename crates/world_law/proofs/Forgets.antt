-- The deliveries that ended with 0 in a slot may be forgotten while nothing is in hand there.
use Rattle.std.proofs.Common.{◌≡◌, ◌≢◌, ⊎_elim, inl, inr, ℕ, ◌+◌, ◌≤◌, ◌==◌, List, [], ◌∷◌, take, Bool, true, false, if◌then◌else◌, Option, Some, None, refl, sym, ap, ◌∙◌, subst, arith, eq-eqb, ne_eqb}
use Rattle.call_fs.specs.Disk.{Among}
use Rattle.program_law.specs.Post.Posts.{AllTell, At, Done, Fares, IsDue, Post, Posted, Tells, WasDoneFor, busy, channel_of, goes_at, in_hand, most, owed_at, reports, told_of, work_of}
use Rattle.program_law.proofs.Post.Frames.{is_apart}
use Rattle.send_jobs.specs.declared.attempts.Attempt.{Attempt}
use Rattle.send_known.specs.declared.channel.Channel.{Channel}
use Rattle.send_known.specs.declared.channel.Channel.TheVariants as channel
use Rattle.send_jobs.specs.Slots.{IsLeastFree, attempt_in, lowest}
use Rattle.send_jobs.proofs.SlotLemmas.{lowest_is_least}
use Rattle.spawn_protocol.specs.declared.report.Report.{Report}
use Rattle.spawn_protocol.specs.declared.request.Request.{Request}
use Rattle.spawner_parts.specs.declared.place.Place.{Place}
use Rattle.spawner_parts.specs.declared.row.Row.{Row}
use Rattle.spawner_parts.specs.declared.row.Row.TheVariants as at
use Rattle.spawner_parts.specs.Counts.{asked, one, runs, times}
use Rattle.world_law.proofs.AtWork.{no_room}

-- without those of one slot
abbrev pub without : ℕ → List Done → List Done
without k [] = []
without k (d ∷ done) = if d.slot == k then without k done else d ∷ without k done

-- each that is left was there, and is of another slot
more_kept : (t : Bool) (it d : Done) (done left : List Done) → Among it (if t then left else d ∷ left) → (Among it left → Among it done) → Among it (d ∷ done)
more_kept true it d done left h f = inr (f h)
more_kept false it d done left h f = ⊎_elim (λ (same : it ≡ d). inl same) (λ (later : Among it left). inr (f later)) h

pub was_there : (k : ℕ) (it : Done) (done : List Done) → Among it (without k done) → Among it done
was_there k it [] h = absurd h
was_there k it (d ∷ done) h = more_kept (d.slot == k) it d done (without k done) h (was_there k it done)

apart_kept : (t : Bool) (k : ℕ) (it d : Done) (left : List Done) → (d.slot == k) ≡ t → Among it (if t then left else d ∷ left) → (Among it left → it.slot ≢ k) → it.slot ≢ k
apart_kept true k it d left e h f = f h
apart_kept false k it d left e h f = ⊎_elim
    (λ (same : it ≡ d). λ (slot : it.slot ≡ k). let is : (d.slot == k) ≡ true = eq_true d.slot k (ap (λ (z : Done). z.slot) (sym same) ∙ slot) in absurd (cc))
    (λ (later : Among it left). f later)
    h
  where
    eq_true : (m n : ℕ) → m ≡ n → (m == n) ≡ true
    eq_true m n e = eq-eqb m n e

pub of_others : (k : ℕ) (it : Done) (done : List Done) → Among it (without k done) → it.slot ≢ k
of_others k it [] h = absurd h
of_others k it (d ∷ done) h = apart_kept (d.slot == k) k it d (without k done) refl h (of_others k it done)

-- and each of another slot is left
still_there : (k : ℕ) (it : Done) (done : List Done) → it.slot ≢ k → Among it done → Among it (without k done)
still_there k it [] apart h = absurd h
still_there k it (d ∷ done) apart h = ⊎_elim
    (λ (same : it ≡ d).
    let off : (d.slot == k) ≡ false = ne_eqb d.slot k (λ e. apart (ap (λ (z : Done). z.slot) same ∙ e)) in
    subst (λ (t : Bool). Among it (if t then without k done else d ∷ without k done)) (sym off) (inl same))
    (λ (later : Among it done). by (d.slot == k) (still_there k it done apart later))
    h
  where
    by : (t : Bool) → Among it (without k done) → Among it (if t then without k done else d ∷ without k done)
    by true g = g
    by false g = inr g

module _ (k : ℕ) (done : List Done) (last : ℕ → Option Request) where
  was_left : (slot : ℕ) (o : Option Request) → slot ≢ k → WasDoneFor done slot o → WasDoneFor (without k done) slot o
  was_left slot None apart h = absurd h
  was_left slot (Some r) apart h =
      record { it = h.it; among = still_there k h.it done (λ e. apart (sym h.slot_is ∙ e)) h.among; slot_is = h.slot_is; sender = h.sender; recipient = h.recipient }

  tells_left : (c : Channel) (x : Report) → x.slot ≢ k → Tells c done last x → Tells c (without k done) last x
  tells_left channel.Local x apart h = λ is. was_left x.slot (last x.slot) apart (h is)
  tells_left channel.Remote x apart h = tt

  none_first : (a b : ℕ) → a + b ≤ 0 → a ≤ 0
  none_first a b low = omega (arith, low)

  none_then : (a b : ℕ) → a + b ≤ 0 → b ≤ 0
  none_then a b low = omega (arith, low)

  all_tell_left : (c : Channel) (rs : List Report) → told_of k rs ≤ 0 → AllTell c done last rs → AllTell c (without k done) last rs
  all_tell_left c [] low h = tt
  all_tell_left c (x ∷ rs) low h =
      (tells_left c x (is_apart k x.slot (none_first (one k x.slot) (told_of k rs) low)) h.0, all_tell_left c rs (none_then (one k x.slot) (told_of k rs) low) h.1)

  due_left : (c : Channel) (bytes : List ℕ) → times k (take 1 bytes) ≤ 0 → IsDue c done last bytes → IsDue c (without k done) last bytes
  due_left c bytes low h =
      let own : one k h.it.slot + 0 ≤ 0 = subst (λ (t : List ℕ). times k (take 1 t) ≤ 0) h.text low in
      record { it = h.it; text = h.text; is = h.is; tells = tells_left c h.it (is_apart k h.it.slot (none_first (one k h.it.slot) 0 own)) h.tells }

  at_left : (c : Channel) (row : Row) (p : Place) → times k (owed_at row p) ≤ 0 → At c done last row p → At c (without k done) last row p
  at_left c at.Report p low h = due_left c p.report low h
  at_left c row p low h = h

-- So they may.
module _ (k : ℕ) (x : Post) (P : Posted x) (none : in_hand P.fares.waits (work_of x.spawner) x k ≤ 0) where
  abbrev F : Fares (channel_of x.spawner) (work_of x.spawner) x
  F = P.fares

  abbrev p : Place
  p = work_of x.spawner

  abbrev g : Bool
  g = goes_at x.serves p.row

  parts : (a b t : ℕ) → a + (b + t) ≤ 0 → (b ≤ 0) × (t ≤ 0)
  parts a b t low = (omega (arith, low), omega (arith, low))

  both : (busy g p.row p k ≤ 0) × (told_of k (reports x) ≤ 0)
  both = parts (asked k F.waits) (busy g p.row p k) (told_of k (reports x)) none

  idle : g ≡ true → times k (owed_at p.row p) ≤ 0
  idle on = half (times k (owed_at p.row p)) (runs k p.running) (subst (λ (b : Bool). busy b p.row p k ≤ 0) on both.0)
    where
      half : (a b : ℕ) → a + b ≤ 0 → a ≤ 0
      half a b low = omega (arith, low)

  pub forgotten : Posted (record x { done = without k x.done })
  forgotten = record {
    fares = record {
      waits = F.waits;
      asks = F.asks;
      lasts = F.lasts;
      stands = λ on. at_left k x.done x.last (channel_of x.spawner) p.row p (idle on) (F.stands on);
      run = F.run;
      tells = F.tells;
      well = all_tell_left k x.done x.last (channel_of x.spawner) (reports x) both.1 F.well;
      once = F.once;
      flies = F.flies;
    };
    starts = P.starts;
  }

-- So are those of the lowest free slot of a living sender, if it has one

abbrev pub forget : Option ℕ → List Done → List Done
forget None done = done
forget (Some k) done = without k done

pub among_left : (low : Option ℕ) (it : Done) (done : List Done) → Among it (forget low done) → Among it done
among_left None it done h = h
among_left (Some k) it done h = was_there k it done h

pub not_lowest : (low : Option ℕ) (it : Done) (done : List Done) → Among it (forget low done) → low ≡ Some it.slot → ⊥
not_lowest None it done h is = absurd (cc)
not_lowest (Some k) it done h is = let same : k ≡ it.slot = cc in of_others k it done h (sym same)

pub lowest_is_free : (slots : List (Option Attempt)) (k : ℕ) → lowest slots ≡ Some k → attempt_in slots k ≡ None
lowest_is_free slots k low = let least : IsLeastFree slots (Some k) = subst (IsLeastFree slots) low (lowest_is_least slots) in least.1

module _ (x : Post) (P : Posted x) (lives : x.lives ≡ true) where
  none_in : (k : ℕ) → attempt_in x.slots k ≡ None → in_hand P.fares.waits (work_of x.spawner) x k ≤ 0
  none_in k free =
      let room : most x.lives x.heard (attempt_in x.slots k) ≡ 0 = ap (λ (b : Bool). most b x.heard (attempt_in x.slots k)) lives ∙ ap (most true x.heard) free ∙ no_room x.heard in
      subst (λ (n : ℕ). in_hand P.fares.waits (work_of x.spawner) x k ≤ n) room (P.fares.once k)

  forgotten_by : (low : Option ℕ) → lowest x.slots ≡ low → Posted (record x { done = forget low x.done })
  forgotten_by None low = P
  forgotten_by (Some k) low = forgotten k x P (none_in k (lowest_is_free x.slots k low))

  pub lowest_forgotten : Posted (record x { done = forget (lowest x.slots) x.done })
  lowest_forgotten = forgotten_by (lowest x.slots) refl
