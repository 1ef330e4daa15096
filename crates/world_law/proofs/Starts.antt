-- An injector starts, and a generation.
use Rattle.std.specs.Prelude.{Contains, ◌∷◌, []}
use Rattle.std.proofs.Common.{◌≡◌, inl, ℕ, List, Bool, true, false, Option, Some, None, refl, sym, ap, ◌∙◌, subst, ⊎_elim, codes, if◌then◌else◌}
use Rattle.call_fs.specs.Maps.{put_at}
use Rattle.call_fs.specs.declared.past.Own.{Own}
use Rattle.queue_law.proofs.Injectors.{injector_start}
use Rattle.program_law.proofs.Sender.Asking.{texts_keep}
use Rattle.program_law.proofs.Sender.Begins.{begins as sender_begins}
use Rattle.actor_names.specs.MailNames.{members}
use Rattle.world_pipes.specs.Pipework.{Tenant, is_member}
use Rattle.world_pipes.specs.Pipework.Tenant.{Remote, Runs}
use Rattle.world_events.specs.declared.event.Program.{Program}
use Rattle.world_events.specs.declared.event.Program.TheVariants.{Injector, Cleaner, Sender, LocalSpawner, RemoteSpawner}
use Rattle.mail_world.specs.History.{Actor, Life, State, newborn, happens, MayRun, IsSender, IsCleaner, IsLocalSpawner, IsRemoteSpawner}
use Rattle.mail_world.specs.History.Event.{Start, Generation}
use Rattle.mail_world.specs.Untouched.{queue}
use Rattle.mail_world.proofs.Members.{are_four, contained_member, four_new, four_other, member_cases, member_contained, whether, with_four}
use Rattle.world_law.specs.Crew.{IsNamed}
use Rattle.world_law.specs.Fares.{FaresBy}
use Rattle.world_law.specs.Inv.{ChildBy, Inv, IsChild, IsTenantOf}
use Rattle.world_law.specs.Laws.{GenerationsKeep, StartsKeep}
use Rattle.world_law.proofs.Begins.{none_asked}
use Rattle.world_law.proofs.Moved.{IsSeenAs, moved_keeps}
use Rattle.world_law.proofs.Tenants.{GoesOn, KeepsChildren, child_kept_of, not_freed}

-- One program starts

started_runs : (s : State) (I : Inv s) (a : List ℕ) (program : Program) → s.actors a ≡ None → MayRun program
    → Inv (happens s (Start a program))
started_runs s I a (Injector args) new runs =
    moved_keeps s I a (newborn (Injector args)) s.pipework tt (injector_start s.now (queue s I.role) a args)
    (subst (λ (o : Option Actor). IsSeenAs o (newborn (Injector args))) (sym new) (record { awaits = refl; place = refl; lives = λ h. absurd (cc) }))
    (record { given = refl; answers = refl }) (subst (λ (o : Option Actor). GoesOn o (Injector args)) (sym new) tt) tt (λ b d t h. inl h) refl
started_runs s I a other new runs = absurd runs

pub starts_keep : StartsKeep
starts_keep a program s I may = started_runs s I a program may.new may.runs

-- Four start together

pub no_member : (a : List ℕ) → (Contains members a → ⊥) → is_member a ≡ false
no_member a apart = ⊎_elim
    (λ (is : is_member a ≡ true). absurd (apart (member_contained a is)))
    (λ (other : is_member a ≡ false). other)
    (whether (is_member a))

module _ (s : State) (I : Inv s) (first second third last : ℕ) where
  abbrev four : List ℕ → Option Actor
  four = with_four s.actors (Sender first) (Cleaner second) (LocalSpawner third) (RemoteSpawner last)

  each_member : (P : List ℕ → Actor → Type 0) → P (codes "sender") (newborn (Sender first)) → P (codes "clean") (newborn (Cleaner second))
      → P (codes "lspawn") (newborn (LocalSpawner third)) → P (codes "rspawn") (newborn (RemoteSpawner last))
      → ((o : List ℕ) (y : Actor) → s.actors o ≡ Some y → P o y) → (o : List ℕ) (y : Actor) → four o ≡ Some y → P o y
  unfolding put_at
  each_member P sender clean lspawn rspawn others o y h = ⊎_elim
      (λ (member : is_member o ≡ true). ⊎_elim
      (λ (e : o ≡ codes "sender"). at_name (codes "sender") (newborn (Sender first)) refl sender e)
      (λ f. ⊎_elim
      (λ (e : o ≡ codes "clean"). at_name (codes "clean") (newborn (Cleaner second)) refl clean e)
      (λ g. ⊎_elim
      (λ (e : o ≡ codes "lspawn"). at_name (codes "lspawn") (newborn (LocalSpawner third)) refl lspawn e)
      (λ (e : o ≡ codes "rspawn"). at_name (codes "rspawn") (newborn (RemoteSpawner last)) refl rspawn e)
      g) f)
      (member_cases o member))
      (λ (other : is_member o ≡ false). others o y (sym (four_other s.actors (Sender first) (Cleaner second) (LocalSpawner third) (RemoteSpawner last) o other) ∙ h))
      (whether (is_member o))
    where
      at_name : (name : List ℕ) (x : Actor) → four name ≡ Some x → P name x → o ≡ name → P o y
      at_name name x is own e =
          let same : x ≡ y = (let v = sym is ∙ (sym (ap four e) ∙ h) in cc) in
          subst (λ (b : List ℕ). P b y) (sym e) (subst (P name) same own)

  each_is_there : (a : List ℕ) → Contains members a → four a ≡ None → ⊥
  each_is_there a member gone =
      let w = four_new s.actors (Sender first) (Cleaner second) (LocalSpawner third) (RemoteSpawner last) a (contained_member a member) in
      let some : ◌≡◌ {A = Option Actor} (Some (newborn w.0)) None = sym w.1 ∙ gone in
      absurd (cc)

  abbrev then_state : State
  then_state = happens s (Generation (Sender first ∷ Cleaner second ∷ LocalSpawner third ∷ RemoteSpawner last ∷ []))

  -- who is no member is as before
  same_other : (o : List ℕ) → (Contains members o → ⊥) → four o ≡ s.actors o
  same_other o apart = four_other s.actors (Sender first) (Cleaner second) (LocalSpawner third) (RemoteSpawner last) o (no_member o apart)

  -- The slots of the members are free now, and in those of deliveries run the injectors that ran there.

  still_runs : (b : List ℕ) (d : ℕ) (c : List ℕ) → is_member b ≡ false → IsChild s b d c → IsChild then_state b d c
  still_runs b d c other h = record {
    bearer = h.bearer;
    bearer_is = four_other s.actors (Sender first) (Cleaner second) (LocalSpawner third) (RemoteSpawner last) b other ∙ h.bearer_is;
    actor = h.actor;
    is = same_other c h.apart ∙ h.is;
    bears = h.bears;
    has = h.has;
    back = h.back;
    apart = h.apart;
  }

  tenant_stays : (b : List ℕ) (d : ℕ) (t : Tenant) → is_member b ≡ false → IsTenantOf s b d t → IsTenantOf then_state b d t
  tenant_stays b d (Runs c) other h = still_runs b d c other h
  tenant_stays b d (Remote reported) other h = h

  runs_then : (member : Bool) (b : List ℕ) (d : ℕ) (t : Tenant) → is_member b ≡ member → (if member then None else s.pipework.programs b d) ≡ Some t → IsTenantOf then_state b d t
  runs_then true b d t e is = absurd (cc)
  runs_then false b d t e is = tenant_stays b d t e (I.tenants b d t is)

  -- What an actor gave to its child is the input that it was started with.

  still_there : KeepsChildren s.actors four
  still_there o x apart is = (x, same_other o apart ∙ is, refl)

  fed_then : (o : List ℕ) (program : Program) (past : List Own) (life : Life) → ChildBy s o program past life → ChildBy then_state o program past life
  fed_then o program past life h =
      child_kept_of s then_state still_there I.tenants o (λ d t is. inl (not_freed (is_member o) (s.pipework.programs o d) t is)) program past life h

  generation_keeps : Inv (happens s (Generation (Sender first ∷ Cleaner second ∷ LocalSpawner third ∷ RemoteSpawner last ∷ [])))
  unfolding put_at
  generation_keeps = record {
    role = I.role;
    moment = I.moment;
    sound = I.sound;
    bounces = I.bounces;
    crew = each_member (λ o y. IsNamed o y.program) refl refl refl refl I.crew;
    fares = each_member (λ o y. FaresBy s.now (queue s I.role) o y.program y.past y.life)
        (record {
          stands = sender_begins s.now (queue s I.role) (codes "sender") None;
          texts = texts_keep.begins (queue s I.role) None;
        })
        tt refl tt I.fares;
    crewed = λ b x there it m member gone. each_is_there m member gone;
    tenants = λ b d t is. runs_then (is_member b) b d t refl is;
    child = each_member (λ o y. ChildBy then_state o y.program y.past y.life) tt tt tt tt (λ o y is. fed_then o y.program y.past y.life (I.child o y is));
    errands = record {
      waits = None;
      errand = none_asked;
      rests = λ lives command h. absurd (cc);
      asked = λ n h. absurd (cc);
      told = λ n h. absurd (cc);
    };
  }

pub is_sender : (program : Program) → IsSender program → (start : ℕ) × (program ≡ Sender start)
is_sender (Sender start) is = (start, refl)
is_sender other is = absurd is

pub is_cleaner : (program : Program) → IsCleaner program → (start : ℕ) × (program ≡ Cleaner start)
is_cleaner (Cleaner start) is = (start, refl)
is_cleaner other is = absurd is

pub is_local : (program : Program) → IsLocalSpawner program → (start : ℕ) × (program ≡ LocalSpawner start)
is_local (LocalSpawner start) is = (start, refl)
is_local other is = absurd is

pub is_remote : (program : Program) → IsRemoteSpawner program → (start : ℕ) × (program ≡ RemoteSpawner start)
is_remote (RemoteSpawner start) is = (start, refl)
is_remote other is = absurd is

pub generations_keep : GenerationsKeep
generations_keep (sender ∷ clean ∷ lspawn ∷ rspawn ∷ []) s I may =
    let one = is_sender sender may.kinds.0 in
    let two = is_cleaner clean may.kinds.1.0 in
    let three = is_local lspawn may.kinds.1.1.0 in
    let four = is_remote rspawn may.kinds.1.1.1.0 in
    subst (λ (p : Program). Inv (happens s (Generation (p ∷ clean ∷ lspawn ∷ rspawn ∷ [])))) (sym one.1)
    (subst (λ (p : Program). Inv (happens s (Generation (Sender one.0 ∷ p ∷ lspawn ∷ rspawn ∷ [])))) (sym two.1)
    (subst (λ (p : Program). Inv (happens s (Generation (Sender one.0 ∷ Cleaner two.0 ∷ p ∷ rspawn ∷ [])))) (sym three.1)
    (subst (λ (p : Program). Inv (happens s (Generation (Sender one.0 ∷ Cleaner two.0 ∷ LocalSpawner three.0 ∷ p ∷ [])))) (sym four.1)
    (generation_keeps s I one.0 two.0 three.0 four.0))))
generations_keep crew s I may = absurd (are_four crew may.kinds)
