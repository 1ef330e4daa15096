-- A machine stop.
use Rattle.std.specs.Prelude.{Contains}
use Rattle.std.proofs.Common.{◌≡◌, ℕ, List, [], Bool, true, false, Option, Some, None, option_map, refl, sym, ◌∙◌, subst, codes}
use Rattle.call_fs.specs.declared.crash_file_system.Survival.{Survival}
use Rattle.call_fs.specs.Survival.{AllSurvive}
use Rattle.call_fs.specs.declared.past.Own.{Own}
use Rattle.program_law.specs.Errand.Errands.{Awaits, Errand, Link}
use Rattle.program_law.specs.Errand.Errands.Awaits.{Over as Lost}
use Rattle.program_law.proofs.Errand.Links.{losses_keep}
use Rattle.queue_clean.specs.Table.{Place}
use Rattle.queue_law.specs.Numbers.{Queue}
use Rattle.queue_law.specs.Steps.{after_halt}
use Rattle.queue_law.proofs.Halts.{injector_halt, sound_after}
use Rattle.queue_law.proofs.Looks.{mapped_some}
use Rattle.actor_names.specs.MailNames.{members}
use Rattle.world_events.specs.declared.event.Program.{Program}
use Rattle.world_events.specs.declared.event.Program.TheVariants.{Injector, Delivery}
use Rattle.mail_world.specs.History.{Actor, Life, MayRun, State, cut_off, happens, stopped}
use Rattle.mail_world.specs.History.Event.{Halt}
use Rattle.mail_world.specs.History.Life.{Alive, Over, Stopped}
use Rattle.mail_world.specs.Untouched.{queue}
use Rattle.world_law.specs.Crew.{IsNamed, awaits_by, awaits_in, is_alive, is_well, link_in, lives_in, place_in}
use Rattle.world_law.specs.Fares.{FaresBy}
use Rattle.world_law.specs.Inv.{ChildBy, ErrandRests, Inv}
use Rattle.world_law.specs.Laws.{HaltsKeep}
use Rattle.world_law.proofs.Gone.{dead_cleaner}
use Rattle.world_law.proofs.Tenants.{dead_child}

-- each actor that lived is stopped
fares_stopped : (now : ℕ) (q : Queue) (contents : ℕ → List ℕ) (a : List ℕ) (program : Program) (past : List Own) (life : Life)
    → FaresBy now q a program past life → FaresBy now (after_halt contents q) a program past (cut_off life)
fares_stopped now q contents a (Injector args) past Alive F = injector_halt now q contents a args past true false F
fares_stopped now q contents a (Injector args) past (Over status) F = injector_halt now q contents a args past false (is_well (Over status)) F
fares_stopped now q contents a (Injector args) past Stopped F = injector_halt now q contents a args past false false F
fares_stopped now q contents a (Delivery began args) past Alive F = record { rests = tt; forwards = F.forwards; well = λ h. absurd (cc) }
fares_stopped now q contents a (Delivery began args) past (Over status) F = record { rests = tt; forwards = F.forwards; well = F.well }
fares_stopped now q contents a (Delivery began args) past Stopped F = record { rests = tt; forwards = F.forwards; well = F.well }
fares_stopped now q contents a other past Alive F = tt
fares_stopped now q contents a other past (Over status) F = tt
fares_stopped now q contents a other past Stopped F = tt

-- what the two come to

stopped_awaits : (life : Life) (program : Program) (past : List Own) → awaits_by (cut_off life) program past ≡ Lost
stopped_awaits Alive program past = refl
stopped_awaits (Over status) program past = refl
stopped_awaits Stopped program past = refl

awaits_halted : (o : Option Actor) → awaits_in (option_map stopped o) ≡ Lost
awaits_halted None = refl
awaits_halted (Some x) = stopped_awaits x.life x.program x.past

place_halted : (o : Option Actor) → place_in (option_map stopped o) ≡ place_in o
place_halted None = refl
place_halted (Some x) = refl

pub stopped_dead : (life : Life) → is_alive (cut_off life) ≡ false
stopped_dead Alive = refl
stopped_dead (Over status) = refl
stopped_dead Stopped = refl

lives_halted : (o : Option Actor) → lives_in (option_map stopped o) ≡ false
lives_halted None = refl
lives_halted (Some x) = dead_cleaner x.program (cut_off x.life) (stopped_dead x.life)

-- nothing is under way that is waited for
halted_errands : (now : ℕ) (q r : Queue) (lives later : Bool) (x : Link) (w : Awaits) (p : Place) → ErrandRests now q lives x → w ≡ Lost → p ≡ x.place → later ≡ false
    → ErrandRests now r later (record { awaits = w; place = p; given = []; answers = [] })
halted_errands now q r lives later x w p E over place dead =
    let left = losses_keep.halted E.waits x E.errand in
    record {
      waits = left.0;
      errand = subst (λ (v : Awaits). Errand left.0 (record { awaits = v; place = p; given = []; answers = [] })) (sym over)
          (subst (λ (z : Place). Errand left.0 (record { awaits = Lost; place = z; given = []; answers = [] })) (sym place) left.1);
      rests = λ alive command h. absurd (cc (sym alive ∙ dead));
      asked = λ n h. absurd (cc (sym over ∙ h));
      told = λ n h. absurd (cc (sym over ∙ h));
    }

module _ (s : State) (I : Inv s) (contents : ℕ → List ℕ) (all : AllSurvive s.disk contents) where
  abbrev after : Queue
  after = after_halt contents (queue s I.role)

  each_stopped : (P : List ℕ → Actor → Type 0) → ((a : List ℕ) (x : Actor) → s.actors a ≡ Some x → P a (stopped x)) → (a : List ℕ) (x : Actor) → option_map stopped (s.actors a) ≡ Some x → P a x
  each_stopped P each a x is = let w = mapped_some stopped (s.actors a) x is in subst (P a) w.2 (each a w.0 w.1)

  -- who isn't there wasn't there
  was_none : (o : Option Actor) → option_map stopped o ≡ None → o ≡ None
  was_none None gone = refl
  was_none (Some x) gone = absurd (cc)

  crew_stopped : (a : List ℕ) (x : Actor) → option_map stopped (s.actors a) ≡ Some x → (MayRun x.program → ⊥) → (m : List ℕ) → Contains members m → s.actors m ≡ None → ⊥
  crew_stopped a x there it =
      let w = mapped_some stopped (s.actors a) x there in
      I.crewed a w.0 w.1 (subst (λ (z : Actor). MayRun z.program → ⊥) (sym w.2) it)

  halted_keeps : (how : Survival) → Inv (happens s (Halt how contents))
  halted_keeps how = record {
    role = I.role;
    moment = I.moment;
    sound = sound_after (queue s I.role) contents all I.sound;
    bounces = I.bounces;
    crew = each_stopped (λ a x. IsNamed a x.program) (λ a x is. I.crew a x is);
    fares = each_stopped (λ a x. FaresBy s.now after a x.program x.past x.life) (λ a x is. fares_stopped s.now (queue s I.role) contents a x.program x.past x.life (I.fares a x is));
    crewed = λ a x there it m member gone. crew_stopped a x there it m member (was_none (s.actors m) gone);
    tenants = λ a d b h. absurd (cc);
    child = each_stopped (λ a x. ChildBy (happens s (Halt how contents)) a x.program x.past x.life)
        (λ a x is. dead_child (happens s (Halt how contents)) a x.program x.past (cut_off x.life) (stopped_dead x.life));
    errands = halted_errands s.now (queue s I.role) after (lives_in (s.actors (codes "clean"))) (lives_in (option_map stopped (s.actors (codes "clean")))) (link_in s)
        (awaits_in (option_map stopped (s.actors (codes "sender")))) (place_in (option_map stopped (s.actors (codes "clean")))) I.errands
        (awaits_halted (s.actors (codes "sender"))) (place_halted (s.actors (codes "clean"))) (lives_halted (s.actors (codes "clean")));
  }

pub halts_keep : HaltsKeep
halts_keep how contents s I all = halted_keeps s I contents all how
