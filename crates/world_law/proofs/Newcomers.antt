-- Nothing lies in the input of one who was never there.
use Rattle.std.specs.Prelude.{Contains}
use Rattle.std.proofs.Common.{◌≡◌, ◌≢◌, ⊎_elim, ℕ, List, [], ◌∷◌, Bool, true, false, if◌then◌else◌, Option, Some, None, refl, sym, ap, ◌∙◌, subst, codes}
use Rattle.actor_names.specs.MailNames.{members}
use Rattle.call_fs.specs.Disk.{Disk}
use Rattle.call_fs.specs.Maps.{put_at}
use Rattle.call_fs.proofs.Maps.{put_at_cases}
use Rattle.call_fs.specs.declared.past.NeedData.{NeedData}
use Rattle.call_fs.specs.declared.past.NeedData.TheVariants as needs
use Rattle.call_fs.specs.declared.past.Own.{Own}
use Rattle.call_fs.specs.declared.program.Port.TheVariants as port
use Rattle.world_pipes.specs.Pipework.{Pipe, closed, fresh, given, is_member, is_writer, mouth, writer}
use Rattle.world_pipes.specs.Pipework.Tenant.{Runs}
use Rattle.world_events.specs.declared.event.Program.{Program}
use Rattle.mail_world.proofs.Members.{are_four, member_contained}
use Rattle.mail_world.specs.History.{Actor, Allowed, Event, Legal, Life, State, acted, after, bears, finished, happens, slot_by}
use Rattle.mail_world.specs.History.Event.{Start, Act, Child, Generation, Report, End, Stop, Moment, Halt}
use Rattle.mail_world.specs.History.Life.{Over, Stopped}
use Rattle.world_law.specs.Inv.{Inv}
use Rattle.world_law.proofs.EnteredStands.{NothingComes}
use Rattle.world_law.proofs.Histories.{always}
use Rattle.world_law.proofs.MessageSteps.{IsNoFeed, input_left}
use Rattle.world_law.proofs.Pipes.{away_same}
use Rattle.world_law.proofs.Gone.{bytes_shut}

-- who isn't there after one was put there is another one, and wasn't there before
put_none : (m : List ℕ → Option Actor) (a : List ℕ) (x : Actor) (b : List ℕ) → put_at m a (Some x) b ≡ None → (b ≢ a) × (m b ≡ None)
put_none m a x b none = ⊎_elim
    (λ (h : (b ≡ a) × (put_at m a (Some x) b ≡ Some x)). let both : Some x ≡ None = sym h.1 ∙ none in absurd (cc))
    (λ (h : (b ≢ a) × (put_at m a (Some x) b ≡ m b)). (h.0, sym h.1 ∙ none))
    (put_at_cases m a (Some x) b)

no_member : (b name : List ℕ) → is_member name ≡ true → (Contains members b → ⊥) → b ≢ name
no_member b name is apart same = apart (subst (λ (n : List ℕ). Contains members n) (sym same) (member_contained name is))

fresh_none : (t : Bool) (p : Pipe) → p.bytes ≡ [] → (if t then fresh else p).bytes ≡ []
fresh_none true p none = refl
fresh_none false p none = none

-- one who was never there runs in no slot
module _ (s : State) (I : Inv s) (a b : List ℕ) (none : s.actors b ≡ None) where
  runs_not : (d : ℕ) → s.pipework.programs a d ≡ Some (Runs b) → ⊥
  runs_not d runs = let h = I.tenants a d (Runs b) runs in let both : Some h.actor ≡ None = sym h.is ∙ none in absurd (cc)

  no_feed : (due : NeedData) → IsNoFeed s.pipework a b due
  no_feed (needs.Give (port.Program d) bytes) = runs_not d
  no_feed due = tt

module _ (s : State) (I : Inv s) (N : NothingComes s) where
  pub acts : (a : List ℕ) (own : Own) (wrote : ℕ) (x : Actor) → NothingComes (acted s a own wrote (Some x))
  acts a own wrote x b gone apart =
      let w = put_none s.actors a (record { program = x.program; past = own ∷ x.past; life = x.life }) b gone in
      input_left s.pipework a b w.0 (no_member b (codes "clean") refl apart) (no_member b (codes "lspawn") refl apart) (no_member b (codes "rspawn") refl apart)
      own.due own.came wrote (no_feed s I a b w.1 own.due)
      ∙ N b w.1 apart

  ends : (a : List ℕ) (life : Life) (o : Option Actor) → s.actors a ≡ o → NothingComes (finished s a life o)
  ends a life None is b gone apart = N b gone apart
  ends a life (Some x) is b gone apart =
      let w = put_none s.actors a (record { program = x.program; past = x.past; life = life }) b gone in
      bytes_shut (is_writer a (writer s.pipework b port.Input)) (s.pipework.pipes b port.Input) ∙ N b w.1 apart

borne : (s : State) → NothingComes s → (parent : List ℕ) (own : Own) (a : List ℕ) (program : Program) → NothingComes (bears s parent own a program)
borne s N parent own a program b gone apart =
    let w = put_none s.actors a _ b gone in
    ap (λ (p : Pipe). p.bytes) (away_same s.pipework.pipes (Some (mouth parent (port.Program (slot_by own.due)))) (λ pipe. fresh) b port.Input refl) ∙ N b w.1 apart

newcomers_keep : (e : Event) (s : State) → Inv s → NothingComes s → Allowed s e → NothingComes (happens s e)
newcomers_keep (Start a program) s I N may = λ b gone apart. N b (put_none s.actors a _ b gone).1 apart
newcomers_keep (Act a own wrote) s I N may =
    subst (λ (o : Option Actor). NothingComes (acted s a own wrote o)) (sym may.reads.is) (acts s I N a own wrote may.actor)
newcomers_keep (Child parent own a program) s I N may =
    subst (λ (o : Option Actor). NothingComes (bears (acted s parent own 0 o) parent own a program)) (sym may.reads.is)
    (borne (acted s parent own 0 (Some may.actor)) (acts s I N parent own 0 may.actor) parent own a program)
newcomers_keep (Generation (sender ∷ clean ∷ lspawn ∷ rspawn ∷ [])) s I N may = λ b gone apart.
    let w = put_none _ (codes "rspawn") _ b gone in
    let v = put_none _ (codes "lspawn") _ b w.1 in
    let u = put_none _ (codes "clean") _ b v.1 in
    let t = put_none s.actors (codes "sender") _ b u.1 in
    fresh_none (is_member b) (s.pipework.pipes b port.Input) (N b t.1 apart)
newcomers_keep (Generation crew) s I N may = absurd (are_four crew may.kinds)
newcomers_keep (Report slot output) s I N may = λ b gone apart.
    ap (λ (p : Pipe). p.bytes) (away_same s.pipework.pipes (Some (mouth (codes "rspawn") (port.Program slot))) (λ pipe. closed (given output pipe)) b port.Input refl)
    ∙ N b gone apart
newcomers_keep (End a read ready status) s I N may = ends s I N a (Over status) (s.actors a) refl
newcomers_keep (Stop a) s I N may = ends s I N a Stopped (s.actors a) refl
newcomers_keep (Moment m) s I N may = λ b gone apart. N b gone apart
newcomers_keep (Halt how contents) s I N may = λ b gone apart. refl

pub newcomers_always : (d : Disk) (before : List Event) → Legal d before → NothingComes (after d before)
newcomers_always d [] legal = λ b gone apart. refl
newcomers_always d (e ∷ before) legal =
    newcomers_keep e (after d before) (always d before legal.0) (newcomers_always d before legal.0) legal.1
