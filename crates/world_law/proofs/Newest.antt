-- The newest event of a living actor, if it is a file call, was made in its history.
use Rattle.std.proofs.Common.{◌≡◌, ◌≢◌, ◌⊎◌, inl, inr, ⊎_elim, ℕ, List, [], ◌∷◌, ◌++◌, Option, Some, None, option_map, refl, sym, ap, ◌∙◌, subst, codes}
use Rattle.call_fs.specs.Disk.{Disk}
use Rattle.call_fs.specs.Maps.{put_at}
use Rattle.call_fs.proofs.Maps.{put_at_cases}
use Rattle.call_fs.specs.declared.calls.CallData.{CallData}
use Rattle.call_fs.specs.declared.past.NeedData.TheVariants as needs
use Rattle.call_fs.specs.declared.past.Own.{Own}
use Rattle.world_events.specs.declared.event.Program.{Program}
use Rattle.mail_world.proofs.Members.{are_four}
use Rattle.mail_world.specs.History.{Actor, Event, Legal, Life, MayDo, State, acted, after, cut_off, finished, happens, newborn, stopped}
use Rattle.mail_world.specs.History.Event.{Act, Child, End, Generation, Halt, Moment, Report, Start, Stop}
use Rattle.mail_world.specs.History.Life.{Alive, Over, Stopped}
use Rattle.world_law.proofs.Tenants.{some_actor}

-- this event of an actor was made in this history, and it has done nothing since
pub record WasMade (d : Disk) (before : List Event) (a : List ℕ) (own : Own) : Type 0 where
  pub since : List Event
  pub wrote : ℕ
  pub older : List Event
  pub all : since ++ (Act a own wrote ∷ older) ≡ before
  pub last : (after d before).actors a ≡ (after d (Act a own wrote ∷ older)).actors a
  pub may : MayDo (after d older) a own wrote

-- it is the newest of one that lives
pub record IsNewest (own : Own) (o : Option Actor) : Type 0 where
  pub actor : Actor
  pub is : o ≡ Some actor
  pub alive : actor.life ≡ Alive
  pub before : List Own
  pub past : actor.past ≡ own ∷ before

cut_dead : (life : Life) → cut_off life ≡ Alive → ⊥
cut_dead Alive is = absurd (cc)
cut_dead (Over status) is = absurd (cc)
cut_dead Stopped is = absurd (cc)

module _ (own : Own) where
  new_apart : (program : Program) → IsNewest own (Some (newborn program)) → ⊥
  new_apart program h =
      let same : newborn program ≡ h.actor = some_actor (newborn program) h.actor h.is in
      let none : ◌≡◌ {A = List Own} [] (own ∷ h.before) = ap (λ (y : Actor). y.past) same ∙ h.past in
      absurd (cc)

  dead_apart : (y : Actor) → (y.life ≡ Alive → ⊥) → IsNewest own (Some y) → ⊥
  dead_apart y dead h = dead (ap (λ (z : Actor). z.life) (some_actor y h.actor h.is) ∙ h.alive)

  halted_apart : (o : Option Actor) → IsNewest own (option_map stopped o) → ⊥
  halted_apart None h = let none = h.is in absurd (cc)
  halted_apart (Some y) h = dead_apart (stopped y) (cut_dead y.life) h

  its_own : (y : Actor) (o : Own) (past : List Own) → y.past ≡ o ∷ past → IsNewest own (Some y) → o ≡ own
  its_own y o past is h =
      let same : o ∷ past ≡ own ∷ h.before = sym is ∙ (ap (λ (z : Actor). z.past) (some_actor y h.actor h.is) ∙ h.past) in
      cc

  -- the actors with one more, or another one
  put_newest : (actors : List ℕ → Option Actor) (b a : List ℕ) (y : Actor) → IsNewest own (put_at actors b (Some y) a)
      → ((a ≡ b) × IsNewest own (Some y)) ⊎ ((put_at actors b (Some y) a ≡ actors a) × IsNewest own (actors a))
  put_newest actors b a y h = ⊎_elim
      (λ (c : (a ≡ b) × (put_at actors b (Some y) a ≡ Some y)). inl (c.0, subst (IsNewest own) c.1 h))
      (λ (c : (a ≢ b) × (put_at actors b (Some y) a ≡ actors a)). inr (c.1, subst (IsNewest own) c.1 h))
      (put_at_cases actors b (Some y) a)

  -- that of none that has just started
  put_new : (actors : List ℕ → Option Actor) (b a : List ℕ) (program : Program) → IsNewest own (put_at actors b (Some (newborn program)) a)
      → (put_at actors b (Some (newborn program)) a ≡ actors a) × IsNewest own (actors a)
  put_new actors b a program h = ⊎_elim
      (λ c. absurd (new_apart program c.1))
      (λ c. c)
      (put_newest actors b a (newborn program) h)

  -- nor of one that ends or is stopped
  finished_newest : (s : State) (b a : List ℕ) (life : Life) → (life ≡ Alive → ⊥) → (o : Option Actor) → IsNewest own ((finished s b life o).actors a)
      → ((finished s b life o).actors a ≡ s.actors a) × IsNewest own (s.actors a)
  finished_newest s b a life dead None h = (refl, h)
  finished_newest s b a life dead (Some y) h = ⊎_elim
      (λ c. absurd (dead_apart (record { program = y.program; past = y.past; life = life }) dead c.1))
      (λ c. c)
      (put_newest s.actors b a (record { program = y.program; past = y.past; life = life }) h)

module _ (d : Disk) (a : List ℕ) (own : Own) (call : CallData) (asked : own.due ≡ needs.File call) where
  -- an event that leaves the actor as it was
  later : (e : Event) (before : List Event) → (happens (after d before) e).actors a ≡ (after d before).actors a → WasMade d before a own → WasMade d (e ∷ before) a own
  later e before same w = record { since = e ∷ w.since; wrote = w.wrote; older = w.older; all = ap (λ (h : List Event). e ∷ h) w.all; last = same ∙ w.last; may = w.may }

  -- this very event
  here : (b : List ℕ) (o : Own) (wrote : ℕ) (before : List Event) → b ≡ a → o ≡ own → MayDo (after d before) b o wrote → WasMade d (Act b o wrote ∷ before) a own
  here b o wrote before name same may =
      subst (λ (c : List ℕ). WasMade d (Act c o wrote ∷ before) a own) (sym name)
      (subst (λ (w : Own). WasMade d (Act a w wrote ∷ before) a own) (sym same)
      (record {
        since = [];
        wrote = wrote;
        older = before;
        all = refl;
        last = refl;
        may = subst (λ (w : Own). MayDo (after d before) a w wrote) same (subst (λ (c : List ℕ). MayDo (after d before) c o wrote) name may);
      }))

  pub was_made : (before : List Event) → Legal d before → IsNewest own ((after d before).actors a) → WasMade d before a own
  was_made [] legal h = let none = h.is in absurd (cc)
  was_made (Start b program ∷ before) legal h =
      let w = put_new own (after d before).actors b a program h in
      later (Start b program) before w.0 (was_made before legal.0 w.1)
  was_made (Act b o wrote ∷ before) legal h =
      let s = after d before in
      let may = legal.1 in
      let y : Actor = record { program = may.actor.program; past = o ∷ may.actor.past; life = may.actor.life } in
      ⊎_elim
      (λ (c : (a ≡ b) × IsNewest own (Some y)). here b o wrote before (sym c.0) (its_own own y o may.actor.past refl c.1) may)
      (λ (c : (put_at s.actors b (Some y) a ≡ s.actors a) × IsNewest own (s.actors a)).
      later (Act b o wrote) before (subst (λ (z : Option Actor). (acted s b o wrote z).actors a ≡ s.actors a) (sym may.reads.is) c.0) (was_made before legal.0 c.1))
      (put_newest own s.actors b a y (subst (λ (z : Option Actor). IsNewest own ((acted s b o wrote z).actors a)) may.reads.is h))
  was_made (Child parent o b program ∷ before) legal h =
      let s = after d before in
      let may = legal.1 in
      let y : Actor = record { program = may.actor.program; past = o ∷ may.actor.past; life = may.actor.life } in
      let w = put_new own (acted s parent o 0 (s.actors parent)).actors b a program h in
      ⊎_elim
      (λ (c : (a ≡ parent) × IsNewest own (Some y)).
      let same = its_own own y o may.actor.past refl c.1 in
      let due : needs.File call ≡ needs.Start may.asked = sym asked ∙ (ap (λ (z : Own). z.due) (sym same) ∙ may.starts) in
      absurd (cc))
      (λ (c : (put_at s.actors parent (Some y) a ≡ s.actors a) × IsNewest own (s.actors a)).
      later (Child parent o b program) before (w.0 ∙ subst (λ (z : Option Actor). (acted s parent o 0 z).actors a ≡ s.actors a) (sym may.reads.is) c.0) (was_made before legal.0 c.1))
      (put_newest own s.actors parent a y (subst (λ (z : Option Actor). IsNewest own ((acted s parent o 0 z).actors a)) may.reads.is w.1))
  was_made (Generation (sender ∷ clean ∷ lspawn ∷ rspawn ∷ []) ∷ before) legal h =
      let actors = (after d before).actors in
      let one = put_at actors (codes "sender") (Some (newborn sender)) in
      let two = put_at one (codes "clean") (Some (newborn clean)) in
      let three = put_at two (codes "lspawn") (Some (newborn lspawn)) in
      let r = put_new own three (codes "rspawn") a rspawn h in
      let l = put_new own two (codes "lspawn") a lspawn r.1 in
      let c = put_new own one (codes "clean") a clean l.1 in
      let w = put_new own actors (codes "sender") a sender c.1 in
      later (Generation (sender ∷ clean ∷ lspawn ∷ rspawn ∷ [])) before (r.0 ∙ (l.0 ∙ (c.0 ∙ w.0))) (was_made before legal.0 w.1)
  was_made (Generation crew ∷ before) legal h = absurd (are_four crew legal.1.kinds)
  was_made (Report slot output ∷ before) legal h = later (Report slot output) before refl (was_made before legal.0 h)
  was_made (End b read ready status ∷ before) legal h =
      let s = after d before in
      let w = finished_newest own s b a (Over status) (λ dead. absurd (cc)) (s.actors b) h in
      later (End b read ready status) before w.0 (was_made before legal.0 w.1)
  was_made (Stop b ∷ before) legal h =
      let s = after d before in
      let w = finished_newest own s b a Stopped (λ dead. absurd (cc)) (s.actors b) h in
      later (Stop b) before w.0 (was_made before legal.0 w.1)
  was_made (Moment m ∷ before) legal h = later (Moment m) before refl (was_made before legal.0 h)
  was_made (Halt how contents ∷ before) legal h = absurd (halted_apart own ((after d before).actors a) h)
