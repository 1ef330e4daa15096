-- What the actors have open, as one of them makes a call, ends, or starts.
use Rattle.std.proofs.Common.{◌≡◌, ◌≢◌, inl, inr, ℕ, List, [], ◌∷◌, ◌++◌, set, Bool, true, false, ◌||◌, ◌&&◌, not, if◌then◌else◌, Option, Some, None, IsSome, refl, sym, ap, ◌∙◌, subst, ⊎_elim, bytes_eq}
use Rattle.std.proofs.Math.Path.{fun_ext}
use Rattle.std.proofs.Math.Bool.{or-false, or-true}
use Rattle.std.proofs.lemmas.Bool.Decides.{eqb_tells}
use Rattle.std.specs.List.{slice_get}
use Rattle.call_fs.specs.declared.calls.Fd.{Fd}
use Rattle.call_fs.specs.declared.calls.CallData.{CallData}
use Rattle.call_fs.specs.declared.calls.Answer.{Answer}
use Rattle.call_fs.specs.declared.calls.Told.{Told}
use Rattle.call_fs.specs.declared.program.Ready.{Ready}
use Rattle.call_fs.specs.Disk.{Disk, Open}
use Rattle.call_fs.specs.declared.modes.Mode.{Mode}
use Rattle.call_fs.specs.Maps.{put}
use Rattle.call_fs.specs.declared.past.NeedData.TheVariants as needs
use Rattle.call_fs.specs.declared.past.GotData.TheVariants.{Answered}
use Rattle.call_fs.specs.Past.{Uses, held}
use Rattle.world_events.specs.declared.event.Program.{Program}
use Rattle.mail_world.specs.declared.actor.Actor.{Actor as Held}
use Rattle.world_events.specs.declared.event.Event.{Event as Kept}
use Rattle.mail_world.specs.History.{State, Actor, Life, stopped, acted, called, finished, happens, held_by, unless_by, shut_by}
use Rattle.mail_world.specs.History.Event.{Start, Moment}
use Rattle.mail_world.specs.History.Life.{Alive}
use Rattle.mail_world.specs.Inside.{IsMember, AreActors, HasOpen, IsOpenTo, IsOwn, Owns, AreApart, has, is_by}
use Rattle.mail_world.specs.Acting.{AreOpen, AreCutOff, open_after, shut}
use Rattle.mail_world.proofs.Lists.{each_set, each_push}
use Rattle.call_fs.proofs.Maps.{put_cases, put_same, put_other, put_at_same, put_at_other}
use Rattle.queue_law.proofs.Tests.{same_text, other_text}
use Rattle.mail_world.proofs.Descriptors.{has_push, apart_push, has_without, apart_without, all_open, with_opens}
use Rattle.mail_world.proofs.Opens.{Opens, ClosesOwn, closes_own, own_stays, owns_after}
use Rattle.mail_world.proofs.Crew.{Halted, apart_by, was_there}
use Rattle.mail_world.proofs.Halts.{never_alive}
use Rattle.queue_law.proofs.Looks.{mapped_some}
use Rattle.call_fs.specs.declared.past.Own.{Own}
use Rattle.mail_world.proofs.Acts.{freed, kept_on}
use Rattle.mail_world.proofs.Passes.{IsPassing}

shut_one : (a : List ℕ) (o : Option (List ℕ)) (file : Option Open) → (if is_by a o then None else file) ≡ unless_by a o file
shut_one a None file = refl
shut_one a (Some b) file = refl

-- to close what is listed is to close what is held
pub shut_listed : (d : Disk) (a : List ℕ) (holder : ℕ → Option (List ℕ)) (fds : List Fd) → ((fd : ℕ) → has fd fds ≡ is_by a (holder fd)) → shut fds d ≡ shut_by a holder d
shut_listed d a holder fds lists = ap (with_opens d) (fun_ext (λ q. ap (λ (b : Bool). if b then None else d.opens q) (lists q) ∙ shut_one a (holder q) (d.opens q)))

-- what is held stays open
held_stays : (d e : Disk) (h g : ℕ → Option (List ℕ)) (a : List ℕ) (c : CallData) (answer : Answer) → Opens d e h g a c answer
    → ((fd : ℕ) (b : List ℕ) → h fd ≡ Some b → IsSome (d.opens fd)) → (fd : ℕ) (b : List ℕ) → g fd ≡ Some b → IsSome (e.opens fd)
held_stays d e h g a c answer (inl s) held fd b is = subst (λ (m : ℕ → Option Open). IsSome (m fd)) (sym s.opens) (held fd b (ap (λ (m : ℕ → Option (List ℕ)). m fd) (sym s.holder) ∙ is))
held_stays d e h g a c answer (inr (inl s)) held fd b is =
    let made : Option Open = Some s.file in
    subst (λ (m : ℕ → Option Open). IsSome (m fd)) (sym s.opens) (⊎_elim
    (λ f. subst (λ (q : ℕ). IsSome (put d.opens s.fd.0 made q)) (sym f.1) (subst IsSome (sym (put_same d.opens s.fd.0 made)) refl))
    (λ f. subst IsSome (sym (put_other d.opens s.fd.0 made fd f.1)) (held fd b (sym (put_other h s.fd.0 (Some a) fd f.1) ∙ ap (λ (m : ℕ → Option (List ℕ)). m fd) (sym s.holder) ∙ is)))
    (eqb_tells fd s.fd.0))
held_stays d e h g a c answer (inr (inr s)) held fd b is =
    let now = ap (λ (m : ℕ → Option (List ℕ)). m fd) (sym s.holder) ∙ is in
    subst (λ (m : ℕ → Option Open). IsSome (m fd)) (sym s.opens) (⊎_elim
    (λ f. let none : ◌≡◌ {A = Option (List ℕ)} None (Some b) = sym f.1 ∙ now in absurd (cc))
    (λ f. subst IsSome (sym (put_other d.opens s.fd.0 None fd f.0)) (held fd b (sym f.1 ∙ now)))
    (put_cases h s.fd.0 None fd))

-- a descriptor that isn't open is nobody's
nobody : (d : Disk) (o : Option (List ℕ)) (b : List ℕ) (fd : ℕ) → d.opens fd ≡ None → ((c : List ℕ) → o ≡ Some c → IsSome (d.opens fd)) → is_by b o ≡ false
nobody d None b fd new held = refl
nobody d (Some c) b fd new held = absurd (cc (subst IsSome new (held c refl)))

-- what is put in somebody's hands, or in nobody's, if it wasn't in another's, is not in another's
others_same : (h g : ℕ → Option (List ℕ)) (b : List ℕ) (k : ℕ) (v : Option (List ℕ)) (fds : List Fd) → g ≡ put h k v → is_by b (h k) ≡ false → is_by b v ≡ false
    → ((fd : ℕ) → has fd fds ≡ is_by b (h fd)) → (fd : ℕ) → has fd fds ≡ is_by b (g fd)
others_same h g b k v fds is was now lists fd =
    lists fd ∙ ⊎_elim
    (λ f. ap (λ (q : ℕ). is_by b (h q)) f.0 ∙ was ∙ sym (ap (is_by b) f.1 ∙ now))
    (λ f. ap (is_by b) (sym f.1))
    (put_cases h k v fd)
    ∙ ap (λ (m : ℕ → Option (List ℕ)). is_by b (m fd)) (sym is)

-- another actor's list
other_list : (d e : Disk) (h g : ℕ → Option (List ℕ)) (a b : List ℕ) (c : CallData) (answer : Answer) (fds : List Fd) → Opens d e h g a c answer → ClosesOwn h a c → b ≢ a
    → ((fd : ℕ) (b : List ℕ) → h fd ≡ Some b → IsSome (d.opens fd)) → ((fd : ℕ) → has fd fds ≡ is_by b (h fd)) → (fd : ℕ) → has fd fds ≡ is_by b (g fd)
other_list d e h g a b c answer fds (inl s) closes apart open_held lists fd = lists fd ∙ ap (λ (m : ℕ → Option (List ℕ)). is_by b (m fd)) (sym s.holder)
other_list d e h g a b c answer fds (inr (inl s)) closes apart open_held lists fd =
    others_same h g b s.fd.0 (Some a) fds s.holder (nobody d (h s.fd.0) b s.fd.0 s.new (open_held s.fd.0)) (other_text a b (λ e. apart (sym e))) lists fd
other_list d e h g a b c answer fds (inr (inr s)) closes apart open_held lists fd =
    others_same h g b s.fd.0 None fds s.holder (ap (is_by b) (closes s.fd s.is) ∙ other_text a b (λ e. apart (sym e))) refl lists fd

-- its own list
own_list : (d e : Disk) (h g : ℕ → Option (List ℕ)) (a : List ℕ) (c : CallData) (answer : Answer) (fds : List Fd) → Opens d e h g a c answer
    → ((fd : ℕ) → has fd fds ≡ is_by a (h fd)) → (fd : ℕ) → has fd (open_after fds c answer) ≡ is_by a (g fd)
own_list d e h g a c answer fds (inl s) lists fd =
    ap (has fd) (s.list fds) ∙ lists fd ∙ ap (λ (m : ℕ → Option (List ℕ)). is_by a (m fd)) (sym s.holder)
own_list d e h g a c answer fds (inr (inl s)) lists fd =
    ap (has fd) (s.list fds) ∙ has_push fd fds s.fd ∙ ⊎_elim
    (λ f. ap (λ b. has fd fds || b) f.0 ∙ or-true (has fd fds) ∙ sym (ap (λ (q : ℕ). is_by a (put h s.fd.0 (Some a) q)) (sym f.1) ∙ ap (is_by a) (put_same h s.fd.0 (Some a)) ∙ same_text a))
    (λ f. ap (λ b. has fd fds || b) f.0 ∙ or-false (has fd fds) ∙ lists fd ∙ ap (is_by a) (sym (put_other h s.fd.0 (Some a) fd (λ same. f.1 (sym same)))))
    (eqb_tells s.fd.0 fd)
    ∙ ap (λ (m : ℕ → Option (List ℕ)). is_by a (m fd)) (sym s.holder)
own_list d e h g a c answer fds (inr (inr s)) lists fd =
    ap (has fd) (s.list fds) ∙ has_without fd s.fd.0 fds ∙ ⊎_elim
    (λ f. ap (λ b. not b && has fd fds) f.0 ∙ sym (ap (λ (q : ℕ). is_by a (put h s.fd.0 None q)) f.1 ∙ ap (is_by a) (put_same h s.fd.0 None)))
    (λ f. ap (λ b. not b && has fd fds) f.0 ∙ lists fd ∙ ap (is_by a) (sym (put_other h s.fd.0 None fd f.1)))
    (eqb_tells fd s.fd.0)
    ∙ ap (λ (m : ℕ → Option (List ℕ)). is_by a (m fd)) (sym s.holder)

own_apart : (d e : Disk) (h g : ℕ → Option (List ℕ)) (a : List ℕ) (c : CallData) (answer : Answer) (fds : List Fd) → Opens d e h g a c answer
    → ((fd : ℕ) (b : List ℕ) → h fd ≡ Some b → IsSome (d.opens fd)) → ((fd : ℕ) → has fd fds ≡ is_by a (h fd)) → AreApart fds → AreApart (open_after fds c answer)
own_apart d e h g a c answer fds (inl s) held lists apart = subst AreApart (sym (s.list fds)) apart
own_apart d e h g a c answer fds (inr (inl s)) held lists apart =
    subst AreApart (sym (s.list fds)) (apart_push fds s.fd apart (lists s.fd.0 ∙ nobody d (h s.fd.0) a s.fd.0 s.new (held s.fd.0)))
own_apart d e h g a c answer fds (inr (inr s)) held lists apart = subst AreApart (sym (s.list fds)) (apart_without s.fd.0 fds apart)

-- one actor makes a call
pub call_opens : (places : List ℕ → Option ℕ) (actors : List Held) (s : State) (events : List Kept) (p i : ℕ) (x y : Held) (m : IsMember s events p x) (d e : Disk) (ready : Ready) (c : CallData) (got : Told)
    → AreActors places actors s events p → slice_get actors i ≡ Some x → m.actor.life ≡ Alive
    → y.name ≡ x.name → y.descriptors.items ≡ open_after x.descriptors.items c got.answer
    → Opens d e s.holder (held_by s.holder x.name c got.answer) x.name c got.answer → Uses (held m.actor.past) c
    → IsOpenTo d actors s → IsOpenTo e (set actors i y) (called s x.name p ready c got 0 (Some m.actor))
call_opens places actors s events p i x y m d e ready c got crew is alive name list opens uses open_to =
    let answer = got.answer in
    let t = called s x.name p ready c got 0 (Some m.actor) in
    let mine = open_to.each i x is in
    let past = m.actor.past in
    let now : Actor = record { program = m.actor.program; past = (record { read = p; ready = ready; due = needs.File c; came = Answered got }) ∷ past; life = m.actor.life } in
    let owned = mine.owns m.actor m.is alive in
    let closes = closes_own d s.holder x.name (held past) c owned uses in
    let owns : Owns e t.holder x.name (held now.past) = owns_after d e s.holder t.holder x.name c answer (held past) opens owned in
    record {
      held = held_stays d e s.holder t.holder x.name c answer opens open_to.held;
      each = each_set (λ j (z : Held). HasOpen e t z) actors i y
          (record {
            lists = λ fd. ap (has fd) list ∙ own_list d e s.holder t.holder x.name c answer x.descriptors.items opens mine.lists fd ∙ ap (λ (a : List ℕ). is_by a (t.holder fd)) (sym name);
            apart = subst AreApart (sym list) (own_apart d e s.holder t.holder x.name c answer x.descriptors.items opens open_to.held mine.lists mine.apart);
            owns = λ actor at lives.
                let both : ◌≡◌ {A = Option Actor} (Some now) (Some actor) = sym (put_at_same s.actors x.name (Some now)) ∙ ap t.actors (sym name) ∙ at in
                let same : now ≡ actor = cc in
                subst (λ (a : List ℕ). Owns e t.holder a (held actor.past)) (sym name)
                (subst (λ (z : Actor). Owns e t.holder x.name (held z.past)) same owns);
          })
          (λ j z other at.
          let old = open_to.each j z at in
          let apart : z.name ≢ x.name = apart_by places x.name z.name i j (crew.placed i x is) (crew.placed j z at) other in
          record {
            lists = other_list d e s.holder t.holder x.name z.name c answer z.descriptors.items opens closes apart open_to.held old.lists;
            apart = old.apart;
            owns = λ actor known lives fd mode is. own_stays d e s.holder t.holder x.name z.name c answer fd mode opens closes apart
                (old.owns actor (sym (put_at_other s.actors x.name _ z.name apart) ∙ known) lives fd mode is);
          });
    }

-- what passes between programs opens nothing
pub pass_opens : (places : List ℕ → Option ℕ) (actors : List Held) (s : State) (events : List Kept) (p i : ℕ) (x y : Held) (m : IsMember s events p x) (d : Disk) (own : Own)
    → AreActors places actors s events p → slice_get actors i ≡ Some x → m.actor.life ≡ Alive
    → y.name ≡ x.name → y.descriptors.items ≡ x.descriptors.items → IsPassing own.due own.came
    → IsOpenTo d actors s → IsOpenTo d (set actors i y) (acted s x.name own 0 (Some m.actor))
pass_opens places actors s events p i x y m d own crew is alive name list passes open_to =
    let t = acted s x.name own 0 (Some m.actor) in
    let mine = open_to.each i x is in
    let past = m.actor.past in
    let now : Actor = record { program = m.actor.program; past = own ∷ past; life = m.actor.life } in
    let same : t.holder ≡ s.holder = passes.holder s.holder x.name in
    let holds : held (own ∷ past) ≡ held past = passes.held (held past) in
    let owned : Owns d t.holder x.name (held now.past) =
    subst (λ (h : ℕ → Option (List ℕ)). Owns d h x.name (held now.past)) (sym same)
    (subst (λ (m : ℕ → Option Mode). Owns d s.holder x.name m) (sym holds) (mine.owns m.actor m.is alive)) in
    record {
      held = λ fd b at. open_to.held fd b (ap (λ (h : ℕ → Option (List ℕ)). h fd) (sym same) ∙ at);
      each = each_set (λ j (z : Held). HasOpen d t z) actors i y
          (record {
            lists = λ fd. ap (has fd) list ∙ mine.lists fd ∙ ap (λ (h : ℕ → Option (List ℕ)). is_by x.name (h fd)) (sym same) ∙ ap (λ (a : List ℕ). is_by a (t.holder fd)) (sym name);
            apart = subst AreApart (sym list) mine.apart;
            owns = λ actor at lives.
                let both : ◌≡◌ {A = Option Actor} (Some now) (Some actor) = sym (put_at_same s.actors x.name (Some now)) ∙ ap t.actors (sym name) ∙ at in
                let one : now ≡ actor = cc in
                subst (λ (a : List ℕ). Owns d t.holder a (held actor.past)) (sym name)
                (subst (λ (z : Actor). Owns d t.holder x.name (held z.past)) one owned);
          })
          (λ j z other at.
          let old = open_to.each j z at in
          let apart : z.name ≢ x.name = apart_by places x.name z.name i j (crew.placed i x is) (crew.placed j z at) other in
          record {
            lists = λ fd. old.lists fd ∙ ap (λ (h : ℕ → Option (List ℕ)). is_by z.name (h fd)) (sym same);
            apart = old.apart;
            owns = λ actor known lives. subst (λ (h : ℕ → Option (List ℕ)). Owns d h z.name (held actor.past)) (sym same)
                (old.owns actor (sym (put_at_other s.actors x.name _ z.name apart) ∙ known) lives);
          });
    }

-- what is still held after an end was held before, by another
held_on : (a : List ℕ) (o : Option (List ℕ)) (b : List ℕ) → unless_by a o o ≡ Some b → (o ≡ Some b) × ((file : Option Open) → unless_by a o file ≡ file)
held_on a None b h = absurd cc
held_on a (Some c) b h = elim (bytes_eq c a) as (λ t. (if t then None else Some c) ≡ Some b → (Some c ≡ Some b) × ((file : Option Open) → (if t then None else file) ≡ file)) [
  | true ↦ λ e. absurd cc
  | false ↦ λ e. (e, λ file. refl)
] h

others_own : (a b : List ℕ) (o : Option (List ℕ)) (X : Type 0) (file : Option X) → b ≢ a → o ≡ Some b → unless_by a o file ≡ file
others_own a b o X file apart is = subst (λ (o : Option (List ℕ)). unless_by a o file ≡ file) (sym is) (ap (λ (t : Bool). if t then None else file) (other_text b a apart))

-- what another actor has stays its own at an end
pub own_after : (d : Disk) (h : ℕ → Option (List ℕ)) (a b : List ℕ) (fd : ℕ) (mode : Mode) → b ≢ a → IsOwn d h b fd mode → IsOwn (shut_by a h d) (λ fd. unless_by a (h fd) (h fd)) b fd mode
own_after d h a b fd mode apart own = record {
  held = others_own a b (h fd) (List ℕ) (h fd) apart own.held ∙ own.held;
  number = own.number;
  is = others_own a b (h fd) Open (d.opens fd) apart own.held ∙ own.is;
}

-- one actor ends or is stopped
pub finish_opens : (places : List ℕ → Option ℕ) (actors : List Held) (s : State) (events : List Kept) (p i : ℕ) (x y : Held) (m : IsMember s events p x) (d : Disk) (life : Life) → life ≢ Alive
    → AreActors places actors s events p → slice_get actors i ≡ Some x → y.name ≡ x.name → y.descriptors.items ≡ []
    → IsOpenTo d actors s → IsOpenTo (shut_by x.name s.holder d) (set actors i y) (finished s x.name life (Some m.actor))
finish_opens places actors s events p i x y m d life dead crew is name none open_to =
    let t = finished s x.name life (Some m.actor) in
    let e = shut_by x.name s.holder d in
    let now : Actor = record { program = m.actor.program; past = m.actor.past; life = life } in
    record {
      held = λ fd b at. let on = held_on x.name (s.holder fd) b at in subst IsSome (sym (on.1 (d.opens fd))) (open_to.held fd b on.0);
      each = each_set (λ j (z : Held). HasOpen e t z) actors i y
          (record {
            lists = λ fd. ap (has fd) none ∙ sym (ap (λ (a : List ℕ). is_by a (t.holder fd)) name ∙ freed x.name (s.holder fd));
            apart = subst AreApart (sym none) tt;
            owns = λ actor at lives.
                let both : ◌≡◌ {A = Option Actor} (Some now) (Some actor) = sym (put_at_same s.actors x.name (Some now)) ∙ ap t.actors (sym name) ∙ at in
                let same : now ≡ actor = cc in
                absurd (dead (ap (λ (z : Actor). z.life) same ∙ lives));
          })
          (λ j z other at.
          let old = open_to.each j z at in
          let apart : z.name ≢ x.name = apart_by places x.name z.name i j (crew.placed i x is) (crew.placed j z at) other in
          record {
            lists = λ fd. old.lists fd ∙ sym (kept_on x.name z.name (s.holder fd) apart);
            apart = old.apart;
            owns = λ actor known lives fd mode is. own_after d s.holder x.name z.name fd mode apart
                (old.owns actor (sym (put_at_other s.actors x.name _ z.name apart) ∙ known) lives fd mode is);
          });
    }

-- a new actor has nothing open
pub start_opens : (places : List ℕ → Option ℕ) (actors : List Held) (s : State) (events : List Kept) (p : ℕ) (y : Held) (a : List ℕ) (program : Program) (d : Disk)
    → AreActors places actors s events p → places a ≡ None → y.name ≡ a → y.descriptors.items ≡ []
    → IsOpenTo d actors s → IsOpenTo d (actors ++ y ∷ []) (happens s (Start a program))
start_opens places actors s events p y a program d crew new name none open_to =
    let t = happens s (Start a program) in
    let now : Actor = record { program = program; past = []; life = Alive } in
    record {
      held = open_to.held;
      each = each_push (λ j (z : Held). HasOpen d t z) actors y
          (record {
            lists = λ fd. ap (has fd) none ∙ sym (ap (λ (a : List ℕ). is_by a (s.holder fd)) name ∙ (crew.strangers a new).holds_none fd);
            apart = subst AreApart (sym none) tt;
            owns = λ actor at lives.
                let both : ◌≡◌ {A = Option Actor} (Some now) (Some actor) = sym (put_at_same s.actors a (Some now)) ∙ ap t.actors (sym name) ∙ at in
                let same : now ≡ actor = cc in
                subst (λ (z : Actor). Owns d t.holder y.name (held z.past)) same (λ fd mode is. absurd (cc));
          })
          (λ j z at.
          let old = open_to.each j z at in
          let apart : z.name ≢ a = λ e. let both : ◌≡◌ {A = Option ℕ} None (Some j) = sym new ∙ ap places (sym e) ∙ crew.placed j z at in absurd (cc) in
          record {
            lists = old.lists;
            apart = old.apart;
            owns = λ actor known lives. old.owns actor (sym (put_at_other s.actors a _ z.name apart) ∙ known) lives;
          });
    }

-- a moment opens nothing
pub moment_opens : (actors : List Held) (s : State) (m : ℕ) (d : Disk) → IsOpenTo d actors s → IsOpenTo d actors (happens s (Moment m))
moment_opens actors s m d open_to = record {
  held = open_to.held;
  each = λ i x is. let old = open_to.each i x is in record { lists = old.lists; apart = old.apart; owns = old.owns };
}

-- a machine stop leaves nothing open
pub halt_opens : (at : ℕ) (old new : List Held) (s t : State) (d : Disk) → Halted s t → AreCutOff at old new → IsOpenTo d new t
halt_opens at old new s t d halted cut = record {
  held = λ fd a is. let both : ◌≡◌ {A = Option (List ℕ)} None (Some a) = sym (halted.holder fd) ∙ is in absurd (cc);
  each = λ i y is.
      let none = (was_there at old new cut i y is).2.descriptors in record {
        lists = λ fd. ap (has fd) none ∙ sym (ap (is_by y.name) (halted.holder fd));
        apart = subst AreApart (sym none) tt;
        owns = λ actor known alive.
            let w = mapped_some stopped (s.actors y.name) actor (sym (halted.actors y.name) ∙ known) in
            absurd (never_alive w.0.life (ap (λ (x : Actor). x.life) w.2 ∙ alive));
      };
}

-- a look opens nothing
pub look_opens : (actors : List Held) (s : State) (i : ℕ) (x y : Held) (d : Disk) → slice_get actors i ≡ Some x → y.name ≡ x.name → y.descriptors.items ≡ x.descriptors.items
    → IsOpenTo d actors s → IsOpenTo d (set actors i y) s
look_opens actors s i x y d is name list open_to =
    let old = open_to.each i x is in record {
      held = open_to.held;
      each = each_set (λ j (z : Held). HasOpen d s z) actors i y
          (record {
            lists = λ fd. ap (has fd) list ∙ old.lists fd ∙ ap (λ (a : List ℕ). is_by a (s.holder fd)) (sym name);
            apart = subst AreApart (sym list) old.apart;
            owns = λ actor known lives. subst (λ (a : List ℕ). Owns d s.holder a (held actor.past)) (sym name) (old.owns actor (ap s.actors (sym name) ∙ known) lives);
          })
          (λ j z other at. open_to.each j z at);
    }

by_holder : (a : List ℕ) (o : Option (List ℕ)) → is_by a o ≡ true → (b : List ℕ) × (o ≡ Some b)
by_holder a None h = absurd cc
by_holder a (Some b) h = (b, refl)

-- what an actor has open can be closed
pub may_close : (d : Disk) (actors : List Held) (s : State) (i : ℕ) (x : Held) → slice_get actors i ≡ Some x → IsOpenTo d actors s → AreOpen d x.descriptors.items
may_close d actors s i x is open_to =
    let old = open_to.each i x is in
    all_open d x.descriptors.items old.apart (λ fd on. let by = by_holder x.name (s.holder fd) (sym (old.lists fd) ∙ on) in open_to.held fd by.0 by.1)
