-- The report of a remote program comes.
use Rattle.std.proofs.Common.{◌≡◌, ◌≢◌, ◌⊎◌, ◌↔◌, Result, Ok, Err, inl, inr, ℕ, zero, suc, ◌+◌, ◌<◌, ◌≤◌, List, [], ◌∷◌, ◌++◌, length, set, Bool, true, false, not, ◌&&◌, Option, Some, None, refl, sym, ap, ◌∙◌, subst, ⊎_elim, arith, bytes_eq, codes}
use Rattle.std.specs.Prelude.{if◌then◌else◌, ◌==◌, nat_lt, take, is_none}
use Rattle.std.specs.List.{slice_get, range_with_len, prefix_len}
use Rattle.std.proofs.lemmas.Bool.{ltb-false, le-ltb}
use Rattle.std.proofs.lemmas.List.{length-set}
use Rattle.std.proofs.lemmas.Option.{slice_get_within}
use Rattle.call_fs.specs.Disk.{Disk}
use Rattle.call_fs.specs.declared.program.Port.TheVariants as port
use Rattle.world_events.specs.declared.event.Event.{Event as Kept}
use Rattle.world_events.specs.declared.event.Event.TheVariants as kept
use Rattle.world_pipes.specs.declared.mouths.Mouths.{Mouths}
use Rattle.world_pipes.specs.declared.mouths.Slot.{Slot}
use Rattle.world_pipes.specs.Mouths.{runs_in, tenant_of, is_remote, IsLowest}
use Rattle.world_pipes.specs.Pipework.{Pipe, Tenant, closed, given, mouth}
use Rattle.world_pipes.specs.Pipework.Tenant.{Runs, Remote}
use Rattle.mail_world.specs.declared.actor.Actor.{Actor as Held}
use Rattle.world_events.specs.declared.answers.WorldError.{WorldError}
use Rattle.world_events.specs.declared.answers.WorldError.TheVariants as why
use Rattle.mail_world.specs.History.{Actor, Life, State, MayReport, IsLiving, report_text, happens}
use Rattle.mail_world.specs.History.Event.{Report}
use Rattle.mail_world.specs.History.Life.{Alive, Over, Stopped}
use Rattle.mail_world.specs.Readiness.{is_gone}
use Rattle.mail_world.specs.Wired.{tenant_in, HaveSlots}
use Rattle.call_fs.specs.Past.{held}
use Rattle.mail_world.specs.Acting.{AreAsBefore}
use Rattle.mail_world.specs.Crew.{lasts, HasReport}
use Rattle.mail_world.specs.Generations.{lives_in, is_unreported, lowest_unreported}
use Rattle.mail_world.specs.World.{Counts}
use Rattle.mail_world.specs.Inside.{known, among_all, life_by, is_by, Owns, IsMember, AreActors, IsOpenTo, IsWorld, ArePiped}
use Rattle.mail_world.proofs.Awaiting.{report_awaits}
use Rattle.mail_world.proofs.Borne.{feed_push}
use Rattle.mail_world.proofs.Crew.{crew_waits}
use Rattle.mail_world.proofs.Feeds.{tenant_at}
use Rattle.mail_world.proofs.Found.{lowest_is}
use Rattle.mail_world.proofs.Histories.{LeadsOn, led_still}
use Rattle.mail_world.proofs.Keeps.{others_stay, slots_set, children_set, over_set}
use Rattle.mail_world.proofs.Known.{known_push}
use Rattle.mail_world.proofs.Lists.{some_at}
use Rattle.mail_world.proofs.Members.{other_than}
use Rattle.mail_world.proofs.Piped.{whole_push}
use Rattle.queue_law.proofs.Tests.{text_cases}
use Rattle.mail_world.proofs.Unwired.{put_away}
use Rattle.mail_world.proofs.Wires.{wired_both, put_runs}
use Rattle.mail_world.proofs.Numbered.{still_count, numbered_still}
use Rattle.mail_world.proofs.Worlds.{on_told, still_pid, pid_push}

-- Whether the remote spawner lives

-- what lives in the state lives in the list
alive_in : (s : State) (events : List Kept) (p : ℕ) (x : Held) → IsMember s events p x → lives_in (s.actors x.name) ≡ is_none x.ended
alive_in s events p x m =
    ap lives_in m.is ∙ ap (λ (life : Life). lives_in (Some (record { program = m.actor.program; past = m.actor.past; life = life }))) m.life ∙ by_end x.ended x.status
  where
    by_end : (ended status : Option ℕ) → lives_in (Some (record { program = m.actor.program; past = m.actor.past; life = life_by ended status })) ≡ is_none ended
    by_end None status = refl
    by_end (Some at) None = refl
    by_end (Some at) (Some status) = refl

take_at : {X : Type 0} (n i : ℕ) (xs : List X) → i < n → slice_get (take n xs) i ≡ slice_get xs i
take_at zero i xs low = absurd (omega arith)
take_at (suc n) i [] low = refl
take_at (suc n) zero (x ∷ xs) low = refl
take_at (suc n) (suc i) (x ∷ xs) low = take_at n i xs (omega arith)

spawner_lives : (crew : ℕ) (places : List ℕ → Option ℕ) (actors : List Held) (s : State) (events : List Kept) (p : ℕ) → AreActors (among_all crew places) actors s events p → (crew ≡ 0) ⊎ (crew ≡ 4)
    → lasts (slice_get (take crew actors) 3) ≡ lives_in (s.actors (codes "rspawn"))
spawner_lives crew places actors s events p w (inl none) =
    let here : among_all crew places (codes "rspawn") ≡ None = ap (λ (n : ℕ). among_all n places (codes "rspawn")) none in
    ap (λ (n : ℕ). lasts (slice_get (take n actors) 3)) none ∙ sym (ap lives_in (w.strangers (codes "rspawn") here).unknown)
spawner_lives crew places actors s events p w (inr four) =
    let here : among_all crew places (codes "rspawn") ≡ Some 3 = ap (λ (n : ℕ). among_all n places (codes "rspawn")) four in
    let x = some_at (λ (x : Held). x.name ≡ codes "rspawn") (slice_get actors 3) (w.named (codes "rspawn") 3 here) in
    ap (λ (n : ℕ). lasts (slice_get (take n actors) 3)) four ∙ ap lasts (take_at 4 3 actors (omega arith)) ∙ ap lasts x.1
    ∙ sym (alive_in s events p x.0 (w.members 3 x.0 x.1)) ∙ ap (λ (a : List ℕ). lives_in (s.actors a)) x.2

-- Of which programs no report came

same_test : (o : Option Tenant) → is_remote false o ≡ is_unreported o
same_test None = refl
same_test (Some (Runs a)) = refl
same_test (Some (Remote true)) = refl
same_test (Some (Remote false)) = refl

spawner_runs : (crew : ℕ) (mouths : List Mouths) (actors : List Held) (s : State) (events : List Kept) → ArePiped crew mouths actors s events → (d : ℕ)
    → s.pipework.programs (codes "rspawn") d ≡ tenant_in (slice_get mouths 3) d
spawner_runs crew mouths actors s events piped = tenant_at piped.wires mouths s.pipework (codes "rspawn") 3 piped.wired (piped.wired.seats (codes "rspawn") refl)

pub unreported_is : (crew : ℕ) (places : List ℕ → Option ℕ) (mouths : List Mouths) (actors : List Held) (s : State) (events : List Kept) (p : ℕ)
    → AreActors (among_all crew places) actors s events p → ArePiped crew mouths actors s events → (d : ℕ)
    → (lasts (slice_get (take crew actors) 3) && is_remote false (tenant_in (slice_get mouths 3) d)) ≡ (lives_in (s.actors (codes "rspawn")) && is_unreported (s.pipework.programs (codes "rspawn") d))
unreported_is crew places mouths actors s events p w piped d =
    ap (λ (t : Bool). t && is_remote false (tenant_in (slice_get mouths 3) d)) (spawner_lives crew places actors s events p w piped.few)
    ∙ ap (λ (t : Bool). lives_in (s.actors (codes "rspawn")) && t) (same_test (tenant_in (slice_get mouths 3) d) ∙ ap is_unreported (sym (spawner_runs crew mouths actors s events piped d)))

-- if the spawner lives, there are pipes of it
pub spawner_piped : (crew : ℕ) (mouths : List Mouths) (actors : List Held) (s : State) (events : List Kept) → ArePiped crew mouths actors s events
    → lasts (slice_get (take crew actors) 3) ≡ true → 3 < length mouths
spawner_piped crew mouths actors s events piped lives = by_few piped.few where
  ended_none : (o : Option ℕ) → is_none o ≡ true → o ≡ None
  ended_none None is = refl
  ended_none (Some at) is = absurd cc

  by_actor : crew ≡ 4 → (o : Option Held) → slice_get actors 3 ≡ o → lasts o ≡ true → 3 < length mouths
  by_actor four None at is = absurd cc
  by_actor four (Some x) at is =
      let many : 4 ≤ length mouths = piped.seated 3 x (omega (arith, four)) at (ended_none x.ended is) in omega (arith, many)

  by_few : (crew ≡ 0) ⊎ (crew ≡ 4) → 3 < length mouths
  by_few (inl none) = let both : lasts None ≡ true = sym (ap (λ (n : ℕ). lasts (slice_get (take n actors) 3)) none) ∙ lives in absurd (cc)
  by_few (inr four) =
      by_actor four (slice_get actors 3) refl (sym (ap (λ (n : ℕ). lasts (slice_get (take n actors) 3)) four ∙ ap lasts (take_at 4 3 actors (omega arith))) ∙ lives)

-- The lowest of them from one on

in_range : (o : Option Slot) → is_remote false (runs_in o) ≡ true → (slot : Slot) × (o ≡ Some slot)
in_range None is = absurd cc
in_range (Some slot) is = (slot, refl)

in_mouths : (mouths : List Mouths) (o : Option Mouths) (d : ℕ) → HaveSlots mouths → slice_get mouths 3 ≡ o → is_remote false (tenant_in o d) ≡ true → d < 256
in_mouths mouths None d slots at is = absurd cc
in_mouths mouths (Some m) d slots at is =
    let slot = in_range (slice_get m.slots.items d) is in subst (λ (n : ℕ). d < n) (slots 3 m at) (slice_get_within m.slots.items d slot.0 slot.1)

second : (t u : Bool) → (t && u) ≡ true → u ≡ true
second true u is = is
second false u is = absurd cc

first : (t u : Bool) → (t && u) ≡ true → t ≡ true
first true u is = refl
first false u is = absurd cc

neither : (t u : Bool) → t ≡ false → (t && u) ≡ false
neither t u is = ap (λ (t : Bool). t && u) is

nor : (t u : Bool) → u ≡ false → (t && u) ≡ false
nor true u is = is
nor false u is = refl

-- a search from a number on is one from 0 on
from_on : (t : ℕ → Bool) (from : ℕ) (found : Option ℕ) → IsLowest t from found → IsLowest (λ d. not (nat_lt d from) && t d) 0 found
from_on t from None none = λ d le high. by_test d high (nat_lt d from) refl where
  by_test : (d : ℕ) → d ≤ 255 → (b : Bool) → nat_lt d from ≡ b → (not (nat_lt d from) && t d) ≡ false
  by_test d high true is = neither (not (nat_lt d from)) (t d) (ap not is)
  by_test d high false is = nor (not (nat_lt d from)) (t d) (none d (ltb-false d from is) high)
from_on t from (Some low) is = (omega arith, both, before) where
  both : (not (nat_lt low from) && t low) ≡ true
  both = ap (λ (b : Bool). not b && t low) (le-ltb low from is.0) ∙ is.1

  by_test : (d : ℕ) → d < low → (b : Bool) → nat_lt d from ≡ b → (not (nat_lt d from) && t d) ≡ false
  by_test d lt true less = neither (not (nat_lt d from)) (t d) (ap not less)
  by_test d lt false high = nor (not (nat_lt d from)) (t d) (is.2 d (ltb-false d from high) lt)

  before : (d : ℕ) → 0 ≤ d → d < low → (not (nat_lt d from) && t d) ≡ false
  before d le lt = by_test d lt (nat_lt d from) refl

position_alike : (t u : ℕ → Bool) (xs : List ℕ) → ((d : ℕ) → t d ≡ u d) → prefix_len (λ d. not (t d)) xs ≡ prefix_len (λ d. not (u d)) xs
position_alike t u [] same = refl
position_alike t u (x ∷ xs) same =
    ap (λ (b : Bool). if not b then 1 + prefix_len (λ d. not (t d)) xs else 0) (same x)
    ∙ ap (λ (n : ℕ). if not (u x) then 1 + n else 0) (position_alike t u xs same)

pub lowest_told : (crew : ℕ) (places : List ℕ → Option ℕ) (mouths : List Mouths) (actors : List Held) (s : State) (events : List Kept) (p from : ℕ) (found : Option ℕ)
    → AreActors (among_all crew places) actors s events p → ArePiped crew mouths actors s events
    → IsLowest (λ d. lasts (slice_get (take crew actors) 3) && is_remote false (tenant_in (slice_get mouths 3) d)) from found → found ≡ lowest_unreported from s
lowest_told crew places mouths actors s events p from found w piped low =
    let t : ℕ → Bool = λ d. lasts (slice_get (take crew actors) 3) && is_remote false (tenant_in (slice_get mouths 3) d) in
    let u : ℕ → Bool = λ d. not (nat_lt d from) && t d in
    let few : (d : ℕ) → u d ≡ true → d < 256 = λ d is. in_mouths mouths (slice_get mouths 3) d piped.slots refl (second (lasts (slice_get (take crew actors) 3)) _ (second (not (nat_lt d from)) (t d) is)) in
    sym (lowest_is u found few (from_on t from found low))
    ∙ ap (λ (n : ℕ). if nat_lt n (length (range_with_len 0 256)) then Some n else None)
    (position_alike u (λ d. not (nat_lt d from) && (lives_in (s.actors (codes "rspawn")) && is_unreported (s.pipework.programs (codes "rspawn") d))) (range_with_len 0 256)
    (λ d. ap (λ (b : Bool). not (nat_lt d from) && b) (unreported_is crew places mouths actors s events p w piped d)))

-- A report may come exactly if there is one

some_living : (s : State) (a : List ℕ) (o : Option Actor) → s.actors a ≡ o → lives_in o ≡ true → IsLiving s a
some_living s a None at is = absurd cc
some_living s a (Some x) at is = by_life x.life refl where
  by_life : (life : Life) → x.life ≡ life → IsLiving s a
  by_life Alive same = record { actor = x; is = at; alive = same }
  by_life (Over status) same =
      let both : false ≡ true = sym (ap (λ (life : Life). lives_in (Some (record { program = x.program; past = x.past; life = life }))) same) ∙ is in absurd (cc)
  by_life Stopped same =
      let both : false ≡ true = sym (ap (λ (life : Life). lives_in (Some (record { program = x.program; past = x.past; life = life }))) same) ∙ is in absurd (cc)

is_remote_in : (o : Option Tenant) → is_unreported o ≡ true → o ≡ Some (Remote false)
is_remote_in None is = absurd cc
is_remote_in (Some (Runs a)) is = absurd cc
is_remote_in (Some (Remote true)) is = absurd cc
is_remote_in (Some (Remote false)) is = refl

pub may_report : (s : State) (slot : ℕ) → (lives_in (s.actors (codes "rspawn")) && is_unreported (s.pipework.programs (codes "rspawn") slot)) ≡ true → MayReport s slot
may_report s slot is = record {
  lives = some_living s (codes "rspawn") (s.actors (codes "rspawn")) refl (first _ _ is);
  runs = is_remote_in (s.pipework.programs (codes "rspawn") slot) (second (lives_in (s.actors (codes "rspawn"))) _ is);
}

pub no_report : (s : State) (slot : ℕ) → (lives_in (s.actors (codes "rspawn")) && is_unreported (s.pipework.programs (codes "rspawn") slot)) ≡ false → MayReport s slot → ⊥
no_report s slot is may =
    let lives : lives_in (s.actors (codes "rspawn")) ≡ true = ap lives_in may.lives.is ∙ ap (λ (life : Life). lives_in (Some (record { program = may.lives.actor.program; past = may.lives.actor.past; life = life }))) may.lives.alive in
    let runs : is_unreported (s.pipework.programs (codes "rspawn") slot) ≡ true = ap is_unreported may.runs in
    let both : true ≡ false = sym (ap (λ (t : Bool). t && is_unreported (s.pipework.programs (codes "rspawn") slot)) lives ∙ runs) ∙ is in absurd (cc)

-- It comes

report_opens : (d : Disk) (actors : List Held) (s t : State) → t.holder ≡ s.holder → t.actors ≡ s.actors → IsOpenTo d actors s → IsOpenTo d actors t
report_opens d actors s t holder same o = record {
  held = λ fd a is. o.held fd a (ap (λ (f : ℕ → Option (List ℕ)). f fd) (sym holder) ∙ is);
  each = λ i x is. let was = o.each i x is in record {
    lists = λ fd. was.lists fd ∙ sym (ap (λ (f : ℕ → Option (List ℕ)). is_by x.name (f fd)) holder);
    apart = was.apart;
    owns = λ actor there lives. subst (λ (f : ℕ → Option (List ℕ)). Owns d f x.name (held actor.past)) (sym holder)
        (was.owns actor (ap (λ (f : List ℕ → Option Actor). f x.name) (sym same) ∙ there) lives);
  };
}

pub report_keeps : (told : Option Disk) (places : List ℕ → Option ℕ) (actors : List Held) (events : List Kept) (p n : ℕ) (b : Counts) (slot letter : ℕ) (text : List ℕ)
    → IsWorld told places actors (known events) events p n b → LeadsOn told told events (events ++ kept.Report slot letter text ∷ []) p p
    → IsWorld told places actors (known (events ++ kept.Report slot letter text ∷ [])) (events ++ kept.Report slot letter text ∷ []) p n b
report_keeps told places actors events p n b slot letter text w leads =
    let s = known events in
    let k = kept.Report slot letter text in
    let t = happens s (Report slot (report_text letter text)) in
    subst (λ (s : State). IsWorld told places actors s (events ++ k ∷ []) p n b) (sym (known_push events k tt)) (record {
      moment = w.moment;
      now = w.now;
      pid = w.pid ∙ sym (pid_push events k ∙ still_pid events k refl);
      count = w.count ∙ sym (still_count events k refl);
      unborn = w.unborn;
      undelivered = w.undelivered;
      numbered = numbered_still s t refl w.numbered;
      kept = crew_waits places actors s t events k p p (omega arith) w.kept refl refl (λ a. refl) (λ a. refl) (report_awaits s slot (report_text letter text));
      opens = on_told told (λ d. IsOpenTo d actors s) (λ d. IsOpenTo d actors t) (λ d o. report_opens d actors s t refl refl o) w.opens;
      led = led_still told events (events ++ k ∷ []) p p leads w.led;
    })

pub report_piped : (crew : ℕ) (mouths : List Mouths) (actors : List Held) (events : List Kept) (m n : Mouths) (slot letter : ℕ) (text : List ℕ)
    → ArePiped crew mouths actors (known events) events → slice_get mouths 3 ≡ Some m → HasReport m n slot (report_text letter text)
    → ArePiped crew (set mouths 3 n) actors (known (events ++ kept.Report slot letter text ∷ [])) (events ++ kept.Report slot letter text ∷ [])
report_piped crew mouths actors events m n slot letter text piped is now =
    let s = known events in
    let k = kept.Report slot letter text in
    let t = happens s (Report slot (report_text letter text)) in
    let stay = others_stay m n slot (Some (Remote true)) true (λ c e. cc) now.tenants now.ended in
    subst (λ (t : State). ArePiped crew (set mouths 3 n) actors t (events ++ k ∷ [])) (sym (known_push events k tt)) (record {
      wires = piped.wires;
      wired = wired_both piped.wires mouths (codes "rspawn") 3 m n (piped.wired.seats (codes "rspawn") refl) is s.pipework piped.wired (port.Program slot)
          (λ (pipe : Pipe). closed (given (report_text letter text) pipe)) slot (Some (Remote true)) (λ c e. cc) now.pipes now.tenants;
      slots = slots_set mouths 3 m n is now.slots piped.slots;
      children = children_set mouths 3 m n is (λ d c runs. (stay d c runs).0) piped.children;
      over = over_set (λ c. is_gone (s.actors c)) mouths 3 m n is stay piped.over;
      places = piped.places;
      stands = piped.stands;
      others = piped.others;
      runs = piped.runs;
      born = λ a d c runs.
          let was = piped.born a d c (put_runs (bytes_eq a (codes "rspawn") && (d == slot)) (s.pipework.programs a d) (Some (Remote true)) c (λ e. cc) runs) in
          record { child = was.child; is = was.is; runs = was.runs; bears = was.bears };
      whole = whole_push events k piped.whole tt;
      fresh = λ a unknown named.
          let was = piped.fresh a unknown named in
          record {
            place = was.place;
            slot = was.slot;
            pipes = λ q own.
                put_away s.pipework.pipes (mouth (codes "rspawn") (port.Program slot)) (λ pipe. closed (given (report_text letter text) pipe)) a q (other_than a (codes "rspawn") named refl)
                ∙ was.pipes q own;
          };
      fed = λ a x there alive borne.
          let may = piped.fed a x there alive borne in
          feed_push s t events k a tt (λ c runs awaiting. tt) (still_runs a may.child may.runs) (λ c runs awaits. report_awaits s slot (report_text letter text) c ∙ awaits) may;
      awaited = λ c x there mail awaits.
          let was = piped.awaited c x there mail (sym (report_awaits s slot (report_text letter text) c) ∙ awaits) in
          record { parent = was.parent; runs = still_runs was.parent c was.runs ∙ was.runs; actor = was.actor; is = was.is; alive = was.alive; borne = was.borne };
      count = subst (λ (n : ℕ). (n ≡ 0) ⊎ ((4 ≤ n) × (crew ≡ 4))) (sym (length-set mouths 3 n)) piped.count;
      few = piped.few;
      many = piped.many;
      seated = λ j z low at lives. subst (λ (n : ℕ). 4 ≤ n) (sym (length-set mouths 3 n)) (piped.seated j z low at lives);
    })
  where
    -- the remote spawner starts no injector
    no_feeder : (d : ℕ) (c : List ℕ) → (known events).pipework.programs (codes "rspawn") d ≡ Some (Runs c) → ⊥
    no_feeder d c runs =
        let here : tenant_of m d ≡ Some (Runs c) =
        ap (λ (o : Option Mouths). tenant_in o d) (sym is) ∙ sym (spawner_runs crew mouths actors (known events) events piped d) ∙ runs in
        (piped.children 3 m d c is here).0

    still_runs : (a c : List ℕ) → (known events).pipework.programs a 0 ≡ Some (Runs c) → (happens (known events) (Report slot (report_text letter text))).pipework.programs a 0 ≡ (known events).pipework.programs a 0
    still_runs a c runs = ⊎_elim
        (λ f. absurd (no_feeder 0 c (ap (λ (a : List ℕ). (known events).pipework.programs a 0) (sym f.0) ∙ runs)))
        (λ f. ap (λ (t : Bool). if t && (0 == slot) then Some (Remote true) else (known events).pipework.programs a 0) f.1)
        (text_cases a (codes "rspawn"))

-- after a lack of memory the pipes are as they were, with room perhaps
pub same_piped : (crew : ℕ) (mouths later : List Mouths) (actors : List Held) (s : State) (events : List Kept) → ArePiped crew mouths actors s events → AreAsBefore mouths later
    → ArePiped crew later actors s events
same_piped crew mouths later actors s events piped same = record {
  wires = piped.wires;
  wired = same.wired piped.wires s.pipework piped.wired;
  slots = same.keep.slots piped.slots;
  children = same.keep.children piped.children;
  over = same.keep.over (λ c. is_gone (s.actors c)) piped.over;
  places = piped.places;
  stands = piped.stands;
  others = piped.others;
  runs = piped.runs;
  born = piped.born;
  whole = piped.whole;
  fresh = piped.fresh;
  fed = piped.fed;
  awaited = piped.awaited;
  count = subst (λ (n : ℕ). (n ≡ 0) ⊎ ((4 ≤ n) × (crew ≡ 4))) (sym same.keep.many) piped.count;
  few = piped.few;
  many = piped.many;
  seated = λ j z low at lives. subst (λ (n : ℕ). 4 ≤ n) (sym same.keep.many) (piped.seated j z low at lives);
}

-- When a report is refused

pub waits_exactly : {T : Type 0} (s : State) (slot : ℕ) (a : List ℕ) → a ≡ codes "rspawn" → (MayReport s slot → ⊥)
    → (name : List ℕ) → (◌≡◌ {A = Result T WorldError} (Err (why.NotWaiting a)) (Err (why.NotWaiting name))) ↔ ((name ≡ codes "rspawn") × (¬ (MayReport s slot)))
waits_exactly {T} s slot a is none name = (
  (λ e. let same : a ≡ name = cc in (sym same ∙ is, none)),
  (λ h. ap failed (is ∙ sym h.0)),
) where
  failed : List ℕ → Result T WorldError
  failed n = Err (why.NotWaiting n)

pub not_waiting : {T : Type 0} (r : Result T WorldError) (s : State) (slot : ℕ) → ((name : List ℕ) → r ≢ Err (why.NotWaiting name)) → MayReport s slot
    → (name : List ℕ) → (r ≡ Err (why.NotWaiting name)) ↔ ((name ≡ codes "rspawn") × (¬ (MayReport s slot)))
not_waiting r s slot other may name = (λ e. absurd (other name e), λ h. absurd (h.1 may))

pub memory_waits : {T : Type 0} (r : Result T WorldError) → r ≡ Err why.Memory → (name : List ℕ) → r ≢ Err (why.NotWaiting name)
memory_waits r is name e = let both = sym is ∙ e in absurd (cc)

pub ok_waits : {T : Type 0} (x : T) → (name : List ℕ) → ◌≢◌ {A = Result T WorldError} (Ok x) (Err (why.NotWaiting name))
ok_waits x name e = absurd (cc)

-- where a report may come, there are pipes of the spawner
pub report_low : (crew : ℕ) (places : List ℕ → Option ℕ) (mouths : List Mouths) (actors : List Held) (s : State) (events : List Kept) (p slot : ℕ)
    → AreActors (among_all crew places) actors s events p → ArePiped crew mouths actors s events → MayReport s slot → 3 < length mouths
report_low crew places mouths actors s events p slot w piped may =
    spawner_piped crew mouths actors s events piped
    (spawner_lives crew places actors s events p w piped.few ∙ ap lives_in may.lives.is
    ∙ ap (λ (life : Life). lives_in (Some (record { program = may.lives.actor.program; past = may.lives.actor.past; life = life }))) may.lives.alive)
