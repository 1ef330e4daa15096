-- A generation starts: its members take the first places, and the mails keep theirs.
use Rattle.std.proofs.Common.{◌≡◌, ◌≢◌, ◌⊎◌, inl, inr, ℕ, zero, suc, ◌+◌, ◌-◌, ◌^◌, ◌<◌, ◌≤◌, min, List, [], ◌∷◌, ◌++◌, length, Bool, true, false, ◌||◌, is_some, reverse, Option, Some, None, IsSomeAnd, refl, sym, ap, ◌∙◌, subst, ⊎_elim, arith, codes}
use Rattle.std.specs.Prelude.{if◌then◌else◌, option_map, nat_lt, drop}
use Rattle.std.specs.List.{slice_get, sum_by}
use Rattle.call_fs.specs.Disk.{Disk}
use Rattle.world_events.specs.declared.event.Event.{Event as Kept}
use Rattle.world_events.specs.declared.event.Event.TheVariants as kept
use Rattle.world_events.specs.declared.event.Program.{Program}
use Rattle.world_events.specs.declared.event.Program.TheVariants.{Injector, Cleaner, Sender, LocalSpawner, RemoteSpawner}
use Rattle.call_fs.specs.declared.program.Port.TheVariants as port
use Rattle.world_pipes.specs.declared.mouths.Mouths.{Mouths}
use Rattle.mail_world.specs.declared.actor.Actor.{Actor as Held}
use Rattle.mail_world.specs.Pipework.{is_member}
use Rattle.mail_world.specs.Readiness.{is_awaiting, is_gone}
use Rattle.mail_world.specs.History.{Actor, State, MayRun, newborn, start_of, happens}
use Rattle.mail_world.specs.History.Event.{Generation}
use Rattle.mail_world.specs.History.Life.{Alive}
use Rattle.mail_world.specs.World.{Counts, Span, span_of, span_after, starts, was_started, starts_in}
use Rattle.mail_world.specs.World.Span.{Unborn, Lasting, OverAt}
use Rattle.mail_world.specs.ByKind.{IsMail, Follows}
use Rattle.world_pipes.specs.Pipework.{fresh}
use Rattle.mail_world.specs.Wired.{seat, IsSlotOf}
use Rattle.mail_world.specs.Crew.{AreRenewed}
use Rattle.mail_world.specs.Generations.{IsNoneAlive}
use Rattle.call_fs.specs.Past.{held}
use Rattle.std.proofs.Math.Bool.{or-false, or-true}
use Rattle.std.proofs.lemmas.List.Elements.{All-nil, All-cons}
use Rattle.mail_world.specs.Inside.{known, RunsAt, unowed, span_by, life_by, is_by, has, AreApart, Owns, among_all, HasBorneLast, IsAwaited, RunsBy, IsMember, IsStranger, HasOpen, IsOpenTo, IsWorld, ArePiped}
use Rattle.world_events.proofs.AmongAll.{place_of_mail, none_below, below, place_of_member, after_seat, same_some, four_places}
use Rattle.mail_world.proofs.NewCrew.{AreFour, IsNewBy}
use Rattle.mail_world.proofs.Awaiting.{awaits_same, no_slot}
use Rattle.mail_world.proofs.Borne.{feed_push}
use Rattle.mail_world.proofs.Crew.{started_push, owes_still, member_over}
use Rattle.mail_world.proofs.Histories.{LeadsOn, generation_told, led_still}
use Rattle.mail_world.proofs.Bounces.{bounce_begun, delivery_begun, forward_begun}
use Rattle.mail_world.proofs.Known.{known_push}
use Rattle.mail_world.proofs.Leaving.{child_named}
use Rattle.mail_world.proofs.Lists.{get_drop, some_at}
use Rattle.world_pipes.proofs.Renews.{wired_renews, slots_renew, children_renew, over_renew, renewed_ran}
use Rattle.mail_world.proofs.Members.{whether, member_cases, four_other, four_sender, four_clean, four_lspawn, four_rspawn}
use Rattle.mail_world.proofs.Seats.{HasSeat, seat_some, seat_none, no_seat, by_seat}
use Rattle.mail_world.proofs.Spans.{span_push, span_stays}
use Rattle.mail_world.proofs.Piped.{whole_push}
use Rattle.mail_world.proofs.Numbered.{still_count, numbered_begun}
use Rattle.mail_world.proofs.Worlds.{on_told, one_pid, pid_push}
use Rattle.world_events.specs.Programs.{crew_at}

-- the members before, if there were any, live no more
abbrev pub NoneLives : ℕ → List Held → Type 0
NoneLives crew actors = (i : ℕ) (x : Held) → i < crew → slice_get actors i ≡ Some x → (at : ℕ) × (x.ended ≡ Some at)

again : (a : List ℕ) (k : Kept) (n : ℕ) (span : Span) → starts a k ≡ true → span ≢ Lasting → span_after a k n span ≡ Lasting
again a k n Unborn starts_it over = ap (λ (b : Bool). if b then Lasting else Unborn) starts_it
again a k n Lasting starts_it over = absurd (over refl)
again a k n (OverAt at) starts_it over = ap (λ (b : Bool). if b then Lasting else OverAt at) starts_it

-- a member that has just started
new_member : (t : State) (events : List Kept) (p : ℕ) (x : Held) (name : List ℕ) (program : ℕ → Program) → IsNewBy x name program
    → t.actors name ≡ Some (newborn (program p)) → RunsAt (seat name) (program p) → (IsMail (program p) → ⊥) → start_of (program p) ≡ p → is_member name ≡ true
    → t.pipework.slots name ≡ None → span_of name (reverse events) ≢ Lasting → IsMember t (events ++ kept.Generation p ∷ []) p x
new_member t events p x name program new at runs other start member slot over =
    let k : Kept = kept.Generation p in
    record {
      actor = newborn (program p);
      is = ap t.actors new.name_is ∙ at;
      follows = λ e. subst (λ (o : Option ℕ). Follows x.machine (program p) (unowed o [])) (sym new.owed) (new.follows p);
      owes = λ e at is. let both : ◌≡◌ {A = Option ℕ} None (Some at) = sym new.owed ∙ is in absurd (cc);
      runs = subst (λ (a : List ℕ). RunsAt (seat a) (program p)) (sym new.name_is) runs;
      run = tt;
      in_order = omega (arith, start);
      life = sym (ap (λ (o : Option ℕ). life_by o x.status) new.ended);
      unended = λ e. new.status;
      awaits = λ e mail. absurd (other mail);
      spans = ap (λ (a : List ℕ). span_of a (reverse (events ++ k ∷ []))) new.name_is ∙ span_push events k name
          ∙ again name k (length events) (span_of name (reverse events)) member over ∙ ap span_by (sym new.ended);
      closed = λ at e. new.descriptors;
    }

-- a mail, and who is neither, are as they were
same_member : (s t : State) (events : List Kept) (p : ℕ) (x : Held) → is_member x.name ≡ false → t.actors x.name ≡ s.actors x.name → is_awaiting t x.name ≡ is_awaiting s x.name
    → IsMember s events p x → IsMember t (events ++ kept.Generation p ∷ []) p x
same_member s t events p x other same awaits m = record {
  actor = m.actor;
  is = same ∙ m.is;
  follows = m.follows;
  owes = λ lives at is. owes_still x events (kept.Generation p) m.actor.past at (m.owes lives at is);
  runs = m.runs;
  run = m.run;
  in_order = m.in_order;
  life = m.life;
  unended = m.unended;
  awaits = λ lives mail. m.awaits lives mail ∙ sym awaits;
  spans = span_stays events (kept.Generation p) x.name other refl ∙ m.spans;
  closed = m.closed;
}

-- who has a seat doesn't start alone
pub seated_apart : (i : ℕ) (program : Program) → RunsAt (Some i) program → MayRun program → ⊥
seated_apart zero (Injector args) runs alone = runs
seated_apart (suc zero) (Injector args) runs alone = runs
seated_apart (suc (suc zero)) (Injector args) runs alone = runs
seated_apart (suc (suc (suc zero))) (Injector args) runs alone = runs
seated_apart (suc (suc (suc (suc i)))) (Injector args) runs alone = runs
seated_apart i other runs alone = absurd alone

-- each member of the generation before is over, or there was none
record WasOver (s : State) (events : List Kept) (actors : List Held) (a : List ℕ) : Type 0 where
  span : span_of a (reverse events) ≢ Lasting
  dead : (x : Actor) → s.actors a ≡ Some x → (x.life ≢ Alive) × (MayRun x.program → ⊥)
  holds : (d : Disk) → IsOpenTo d actors s → (fd : ℕ) → is_by a (s.holder fd) ≡ false

was_over : (told : Option Disk) (places : List ℕ → Option ℕ) (crew : ℕ) (actors : List Held) (events : List Kept) (p n : ℕ) (b : Counts)
    → IsWorld told (among_all crew places) actors (known events) events p n b → NoneLives crew actors → (crew ≡ 0) ⊎ (crew ≡ 4)
    → (a : List ℕ) → is_member a ≡ true → WasOver (known events) events actors a
was_over told places crew actors events p n b w none few a member = by_few few where
  s : State
  s = known events

  at : HasSeat a
  at = seat_some a member

  here : among_all crew places a ≡ (if nat_lt at.at crew then Some at.at else None)
  here = place_of_member crew places a at.at at.is

  stranger : among_all crew places a ≡ None → WasOver s events actors a
  stranger is =
      let m = w.kept.strangers a is in record {
        span = λ lasts. let both : Unborn ≡ Lasting = sym m.unborn ∙ lasts in absurd (cc);
        dead = λ x there. let both : ◌≡◌ {A = Option Actor} None (Some x) = sym m.unknown ∙ there in absurd (cc);
        holds = λ d o. m.holds_none;
      }

  over : among_all crew places a ≡ Some at.at → at.at < crew → WasOver s events actors a
  over is low =
      let x = some_at (λ (x : Held). x.name ≡ a) (slice_get actors at.at) (w.kept.named a at.at is) in
      let m = w.kept.members at.at x.0 x.1 in
      let ended = none at.at x.0 low x.1 in
      record {
        span = λ lasts.
            let both : OverAt ended.0 ≡ Lasting = sym (ap (λ (a : List ℕ). span_of a (reverse events)) (sym x.2) ∙ m.spans ∙ ap span_by ended.1) ∙ lasts in absurd (cc);
        dead = λ y there.
            let both : ◌≡◌ {A = Option Actor} (Some m.actor) (Some y) = sym m.is ∙ ap s.actors x.2 ∙ there in
            let same : m.actor ≡ y = cc in
            let runs : RunsAt (Some at.at) m.actor.program = subst (λ (o : Option ℕ). RunsAt o m.actor.program) (ap seat x.2 ∙ at.is) m.runs in
            subst (λ (y : Actor). (y.life ≢ Alive) × (MayRun y.program → ⊥)) same (member_over s events p x.0 m ended.0 ended.1, seated_apart at.at m.actor.program runs);
        holds = λ d o fd. ap (λ (a : List ℕ). is_by a (s.holder fd)) (sym x.2) ∙ sym ((o.each at.at x.0 x.1).lists fd) ∙ ap (has fd) (m.closed ended.0 ended.1);
      }

  by_few : (crew ≡ 0) ⊎ (crew ≡ 4) → WasOver s events actors a
  by_few (inl zero_crew) = stranger (here ∙ ap (λ (n : ℕ). if nat_lt at.at n then Some at.at else None) zero_crew ∙ none_below at.at)
  by_few (inr four_crew) =
      let low : at.at < crew = omega (arith, four_crew, at.low) in
      over (here ∙ ap (λ (t : Bool). if t then Some at.at else None) (below at.at crew low)) low

pub none_alive : (told : Option Disk) (places : List ℕ → Option ℕ) (crew : ℕ) (actors : List Held) (events : List Kept) (p n : ℕ) (b : Counts)
    → IsWorld told (among_all crew places) actors (known events) events p n b → NoneLives crew actors → (crew ≡ 0) ⊎ (crew ≡ 4) → IsNoneAlive events
none_alive told places crew actors events p n b w none few =
    let over = was_over told places crew actors events p n b w none few in
    let P : List ℕ → Type 0 = λ (a : List ℕ). span_of a (reverse events) ≢ Lasting in
    All-cons P (codes "sender") (codes "clean" ∷ codes "lspawn" ∷ codes "rspawn" ∷ []) (over (codes "sender") refl).span
    (All-cons P (codes "clean") (codes "lspawn" ∷ codes "rspawn" ∷ []) (over (codes "clean") refl).span
    (All-cons P (codes "lspawn") (codes "rspawn" ∷ []) (over (codes "lspawn") refl).span
    (All-cons P (codes "rspawn") [] (over (codes "rspawn") refl).span (All-nil P))))

-- so a generation may start
pub begun_leads_on : (told : Option Disk) (places : List ℕ → Option ℕ) (crew : ℕ) (actors : List Held) (events : List Kept) (p n : ℕ) (b : Counts)
    → IsWorld told (among_all crew places) actors (known events) events p n b → NoneLives crew actors → (crew ≡ 0) ⊎ (crew ≡ 4)
    → LeadsOn told told events (events ++ kept.Generation p ∷ []) p p
begun_leads_on told places crew actors events p n b w none few =
    generation_told told events p (λ a x member there. (was_over told places crew actors events p n b w none few a member).dead x there)

no_place : (crew : ℕ) (o : Option ℕ) → option_map (λ i. 4 + i) o ≡ None → option_map (λ i. crew + i) o ≡ None
no_place crew None is = refl
no_place crew (Some i) is = absurd (cc)

-- what holds of each of the four and of each mail holds of all
each_of : (P : ℕ → Held → Type 0) (a b c d : Held) (mails : List Held) → P 0 a → P 1 b → P 2 c → P 3 d → ((j : ℕ) (x : Held) → slice_get mails j ≡ Some x → P (4 + j) x)
    → (i : ℕ) (x : Held) → slice_get (a ∷ b ∷ c ∷ d ∷ mails) i ≡ Some x → P i x
each_of P a b c d mails pa pb pc pd rest zero x is = let same : a ≡ x = cc in subst (P 0) same pa
each_of P a b c d mails pa pb pc pd rest (suc zero) x is = let same : b ≡ x = cc in subst (P 1) same pb
each_of P a b c d mails pa pb pc pd rest (suc (suc zero)) x is = let same : c ≡ x = cc in subst (P 2) same pc
each_of P a b c d mails pa pb pc pd rest (suc (suc (suc zero))) x is = let same : d ≡ x = cc in subst (P 3) same pd
each_of P a b c d mails pa pb pc pd rest (suc (suc (suc (suc j)))) x is =
    let e : 4 + j ≡ suc (suc (suc (suc j))) = omega arith in subst (λ (n : ℕ). P n x) e (rest j x is)

-- who is no member awaits its input, or not, as before
begun_awaiting : (s : State) (p : ℕ) (a : List ℕ) → is_member a ≡ false → is_awaiting (happens s (Generation (crew_at p))) a ≡ is_awaiting s a
begun_awaiting s p a other =
    awaits_same s (happens s (Generation (crew_at p))) a refl (ap (λ (t : Bool). if t then fresh else s.pipework.pipes a port.Input) other)

-- a new member has nothing open
new_opens : (d : Disk) (t : State) (x : Held) (name : List ℕ) (program : ℕ → Program) (p : ℕ) → IsNewBy x name program → t.actors name ≡ Some (newborn (program p))
    → ((fd : ℕ) → is_by name (t.holder fd) ≡ false) → HasOpen d t x
new_opens d t x name program p new at none = record {
  lists = λ fd. ap (has fd) new.descriptors ∙ sym (ap (λ (a : List ℕ). is_by a (t.holder fd)) new.name_is ∙ none fd);
  apart = subst AreApart (sym new.descriptors) tt;
  owns = λ actor there lives.
      let both : ◌≡◌ {A = Option Actor} (Some (newborn (program p))) (Some actor) = sym at ∙ ap t.actors (sym new.name_is) ∙ there in
      let same : newborn (program p) ≡ actor = cc in
      subst (λ (y : Actor). Owns d t.holder x.name (held y.past)) same (λ fd mode is. absurd (cc));
}

pub begun_keeps : (told : Option Disk) (places : List ℕ → Option ℕ) (crew : ℕ) (actors four : List Held) (events : List Kept) (p n q : ℕ) (b : Counts)
    → IsWorld told (among_all crew places) actors (known events) events p n b → NoneLives crew actors → (crew ≡ 0) ⊎ (crew ≡ 4) → ((a : List ℕ) → is_member a ≡ true → (known events).pipework.slots a ≡ None)
    → AreFour four → q ≡ min (n + 4) (2 ^ 32 - 1)
    → IsWorld told (among_all 4 places) (four ++ drop crew actors) (known (events ++ kept.Generation p ∷ [])) (events ++ kept.Generation p ∷ []) p q b
begun_keeps told places crew actors four events p n q b w none few slots new next =
    subst (λ (l : List Held). IsWorld told (among_all 4 places) (l ++ mails) (known later) later p q b) (sym new.are)
    (subst (λ (s : State). IsWorld told (among_all 4 places) (new.sender ∷ new.clean ∷ new.lspawn ∷ new.rspawn ∷ mails) s later p q b) (sym (known_push events k tt)) (record {
      moment = w.moment;
      now = w.now;
      pid = one_pid n q (sum_by starts_in events) 4 w.pid next ∙ sym (pid_push events k);
      count = w.count ∙ sym (still_count events k refl);
      unborn = λ m more. bounce_begun crew places m (w.unborn m more);
      undelivered = λ m more. let old = w.undelivered m more in (delivery_begun crew places m old.0, forward_begun crew places m old.1);
      numbered = numbered_begun s p w.numbered;
      kept = record {
        placed = each_of (λ i (x : Held). among_all 4 places x.name ≡ Some i) new.sender new.clean new.lspawn new.rspawn mails
            (ap (among_all 4 places) new.sender_is.name_is) (ap (among_all 4 places) new.clean_is.name_is) (ap (among_all 4 places) new.lspawn_is.name_is) (ap (among_all 4 places) new.rspawn_is.name_is)
            (λ j x is. let at = mail j x is in place_of_mail 4 places x.name at.0 ∙ ap (option_map (λ i. 4 + i)) at.1);
        members = each_of (λ i (x : Held). IsMember t later p x) new.sender new.clean new.lspawn new.rspawn mails
            (new_member t events p new.sender (codes "sender") Sender new.sender_is (four_sender s.actors (Sender p) (Cleaner p) (LocalSpawner p) (RemoteSpawner p)) tt (λ mail. mail) refl refl (slots (codes "sender") refl) (over (codes "sender") refl).span)
            (new_member t events p new.clean (codes "clean") Cleaner new.clean_is (four_clean s.actors (Sender p) (Cleaner p) (LocalSpawner p) (RemoteSpawner p)) tt (λ mail. mail) refl refl (slots (codes "clean") refl) (over (codes "clean") refl).span)
            (new_member t events p new.lspawn (codes "lspawn") LocalSpawner new.lspawn_is (four_lspawn s.actors (Sender p) (Cleaner p) (LocalSpawner p) (RemoteSpawner p)) tt (λ mail. mail) refl refl (slots (codes "lspawn") refl) (over (codes "lspawn") refl).span)
            (new_member t events p new.rspawn (codes "rspawn") RemoteSpawner new.rspawn_is (four_rspawn s.actors (Sender p) (Cleaner p) (LocalSpawner p) (RemoteSpawner p)) tt (λ mail. mail) refl refl (slots (codes "rspawn") refl) (over (codes "rspawn") refl).span)
            (λ j x is. let other = no_seat x.name (mail j x is).0 in same_member s t events p x other (four_other s.actors (Sender p) (Cleaner p) (LocalSpawner p) (RemoteSpawner p) x.name other)
            (begun_awaiting s p x.name other) (w.kept.members (crew + j) x (old j x is)));
        named = named;
        strangers = strangers;
        started = started;
      };
      opens = on_told told (λ d. IsOpenTo d actors s) (λ d. IsOpenTo d (new.sender ∷ new.clean ∷ new.lspawn ∷ new.rspawn ∷ mails) t) opens w.opens;
      led = led_still told events later p p (begun_leads_on told places crew actors events p n b w none few) w.led;
    }))
  where
    s : State
    s = known events

    k : Kept
    k = kept.Generation p

    later : List Kept
    later = events ++ k ∷ []

    t : State
    t = happens s (Generation (crew_at p))

    mails : List Held
    mails = drop crew actors

    over : (a : List ℕ) → is_member a ≡ true → WasOver s events actors a
    over = was_over told places crew actors events p n b w none few

    old : (j : ℕ) (x : Held) → slice_get mails j ≡ Some x → slice_get actors (crew + j) ≡ Some x
    old j x is = sym (get_drop crew actors j) ∙ is

    mail : (j : ℕ) (x : Held) → slice_get mails j ≡ Some x → (seat x.name ≡ None) × (places x.name ≡ Some j)
    mail j x is = after_seat crew j places x.name (w.kept.placed (crew + j) x (old j x is))

    named : (a : List ℕ) (i : ℕ) → among_all 4 places a ≡ Some i → IsSomeAnd (slice_get (new.sender ∷ new.clean ∷ new.lspawn ∷ new.rspawn ∷ mails) i) (λ x. x.name ≡ a)
    named a i at = by_member (whether (is_member a)) where
      of_mail : is_member a ≡ false → (o : Option ℕ) → places a ≡ o → option_map (λ i. 4 + i) o ≡ Some i → IsSomeAnd (slice_get (new.sender ∷ new.clean ∷ new.lspawn ∷ new.rspawn ∷ mails) i) (λ x. x.name ≡ a)
      of_mail other None is e = absurd (cc)
      of_mail other (Some j) is e =
          let first : 4 + j ≡ i = cc in
          let here : suc (suc (suc (suc j))) ≡ i = omega (arith, first) in
          let was : among_all crew places a ≡ Some (crew + j) = place_of_mail crew places a (seat_none a other) ∙ ap (option_map (λ i. crew + i)) is in
          let x = some_at (λ (x : Held). x.name ≡ a) (slice_get actors (crew + j)) (w.kept.named a (crew + j) was) in
          subst (λ (i : ℕ). IsSomeAnd (slice_get (new.sender ∷ new.clean ∷ new.lspawn ∷ new.rspawn ∷ mails) i) (λ x. x.name ≡ a)) here
          (subst (λ (o : Option Held). IsSomeAnd o (λ x. x.name ≡ a)) (sym (get_drop crew actors j ∙ x.1)) x.2)

      by_member : (is_member a ≡ true) ⊎ (is_member a ≡ false) → IsSomeAnd (slice_get (new.sender ∷ new.clean ∷ new.lspawn ∷ new.rspawn ∷ mails) i) (λ x. x.name ≡ a)
      by_member (inl member) =
          let h = seat_some a member in
          let both : ◌≡◌ {A = Option ℕ} (Some h.at) (Some i) = sym (four_places places a h.at h.is h.low) ∙ at in
          let same : h.at ≡ i = cc in
          by_seat (λ (a : List ℕ) (i : ℕ). IsSomeAnd (slice_get (new.sender ∷ new.clean ∷ new.lspawn ∷ new.rspawn ∷ mails) i) (λ x. x.name ≡ a))
          new.sender_is.name_is new.clean_is.name_is new.lspawn_is.name_is new.rspawn_is.name_is a i (h.is ∙ ap Some same)
      by_member (inr other) = of_mail other (places a) refl (sym (place_of_mail 4 places a (seat_none a other)) ∙ at)

    strangers : (a : List ℕ) → among_all 4 places a ≡ None → IsStranger t later a
    strangers a nowhere_now = ⊎_elim
        (λ member. let h = seat_some a member in
        let both : ◌≡◌ {A = Option ℕ} (Some h.at) None = sym (four_places places a h.at h.is h.low) ∙ nowhere_now in absurd (cc))
        (λ other. let m = w.kept.strangers a (place_of_mail crew places a (seat_none a other) ∙ no_place crew (places a) (sym (place_of_mail 4 places a (seat_none a other)) ∙ nowhere_now)) in record {
          unknown = four_other s.actors (Sender p) (Cleaner p) (LocalSpawner p) (RemoteSpawner p) a other ∙ m.unknown;
          unborn = span_stays events k a other refl ∙ m.unborn;
          holds_none = m.holds_none;
        })
        (whether (is_member a))

    started : (a : List ℕ) → was_started later a ≡ is_some (among_all 4 places a)
    started a = started_push events k a ∙ ⊎_elim
        (λ member. let h = seat_some a member in
        ap (λ (t : Bool). was_started events a || t) member ∙ or-true (was_started events a) ∙ sym (ap is_some (four_places places a h.at h.is h.low)))
        (λ other. ap (λ (t : Bool). was_started events a || t) other ∙ or-false (was_started events a) ∙ w.kept.started a
        ∙ ap is_some (place_of_mail crew places a (seat_none a other)) ∙ same_some crew (places a) ∙ sym (ap is_some (place_of_mail 4 places a (seat_none a other))))
        (whether (is_member a))

    opens : (d : Disk) → IsOpenTo d actors s → IsOpenTo d (new.sender ∷ new.clean ∷ new.lspawn ∷ new.rspawn ∷ mails) t
    opens d o = record {
      held = o.held;
      each = each_of (λ i (x : Held). HasOpen d t x) new.sender new.clean new.lspawn new.rspawn mails
          (new_opens d t new.sender (codes "sender") Sender p new.sender_is (four_sender s.actors (Sender p) (Cleaner p) (LocalSpawner p) (RemoteSpawner p)) ((over (codes "sender") refl).holds d o))
          (new_opens d t new.clean (codes "clean") Cleaner p new.clean_is (four_clean s.actors (Sender p) (Cleaner p) (LocalSpawner p) (RemoteSpawner p)) ((over (codes "clean") refl).holds d o))
          (new_opens d t new.lspawn (codes "lspawn") LocalSpawner p new.lspawn_is (four_lspawn s.actors (Sender p) (Cleaner p) (LocalSpawner p) (RemoteSpawner p)) ((over (codes "lspawn") refl).holds d o))
          (new_opens d t new.rspawn (codes "rspawn") RemoteSpawner p new.rspawn_is (four_rspawn s.actors (Sender p) (Cleaner p) (LocalSpawner p) (RemoteSpawner p)) ((over (codes "rspawn") refl).holds d o))
          (λ j x is. let was = o.each (crew + j) x (old j x is) in
          let other = no_seat x.name (mail j x is).0 in
          record {
            lists = was.lists;
            apart = was.apart;
            owns = λ actor there lives. was.owns actor (sym (four_other s.actors (Sender p) (Cleaner p) (LocalSpawner p) (RemoteSpawner p) x.name other) ∙ there) lives;
          });
    }

-- the members of the generation before are over
pub members_over : (told : Option Disk) (places : List ℕ → Option ℕ) (crew : ℕ) (actors : List Held) (events : List Kept) (p n : ℕ) (b : Counts)
    → IsWorld told (among_all crew places) actors (known events) events p n b → NoneLives crew actors → (crew ≡ 0) ⊎ (crew ≡ 4)
    → (a : List ℕ) (x : Actor) → is_member a ≡ true → (known events).actors a ≡ Some x → x.life ≢ Alive
members_over told places crew actors events p n b w none few a x member is = ((was_over told places crew actors events p n b w none few a member).dead x is).0

-- a member that has just begun, with its pipes
record HasBegunAt (wires : List ℕ → Option ℕ) (a : List ℕ) (x : Actor) : Type 0 where
  runs : RunsBy (wires a) x.program
  past : x.past ≡ []

-- the new pipes are those of the model, and whoever is no member keeps its own
pub begun_piped : (crew : ℕ) (mouths renewed : List Mouths) (actors four : List Held) (events : List Kept) (p : ℕ)
    → ArePiped crew mouths actors (known events) events → ((a : List ℕ) (x : Actor) → is_member a ≡ true → (known events).actors a ≡ Some x → x.life ≢ Alive) → AreFour four → AreRenewed mouths renewed
    → ArePiped 4 renewed (four ++ drop crew actors) (known (events ++ kept.Generation p ∷ [])) (events ++ kept.Generation p ∷ [])
begun_piped crew mouths renewed actors four events p piped over new renews =
    subst (λ (t : State). ArePiped 4 renewed (four ++ drop crew actors) t (events ++ kept.Generation p ∷ [])) (sym (known_push events (kept.Generation p) tt)) (record {
      wires = piped.wires;
      wired = wired_renews piped.wires mouths renewed s.pipework piped.wired renews;
      slots = slots_renew piped.wires mouths renewed s.pipework piped.wired renews piped.slots;
      children = children_renew piped.wires mouths renewed s.pipework piped.wired renews piped.children;
      over = over_renew piped.wires mouths renewed s.pipework piped.wired renews (λ c. is_gone (s.actors c)) (λ c. is_gone (t.actors c)) (λ c other. ap is_gone (still c other)) piped.children piped.over;
      places = each_then (λ (z : Held). z.ended ≡ None → piped.wires z.name ≡ z.wire) (λ x name program is lives. placed x name program is) piped.places;
      stands = each_then (λ (z : Held). z.ended ≡ None → IsSlotOf piped.wires (s.pipework.slots z.name) z.slot)
          (λ x name program is lives. subst (IsSlotOf piped.wires (s.pipework.slots x.name)) (sym is.0.slot) (ap s.pipework.slots is.0.name_is ∙ piped.wired.members name is.1)) piped.stands;
      others = each_then (λ (z : Held). is_member z.name ≡ false → piped.wires z.name ≡ z.wire) (λ x name program is other. placed x name program is) piped.others;
      runs = λ a x is alive. ⊎_elim
          (λ member. (begun a x member is).runs)
          (λ other. piped.runs a x (sym (still a other) ∙ is) alive)
          (whether (is_member a));
      born = λ a d c runs.
          let ran = renewed_ran piped.wires mouths renewed s.pipework piped.wired renews a d c runs in
          let was = piped.born a d c ran.1 in
          record {
            child = was.child;
            is = still c (child_named crew mouths actors s events piped a c ran.1) ∙ was.is;
            runs = was.runs;
            bears = λ x there. was.bears x (sym (still a ran.0) ∙ there);
          };
      whole = whole_push events (kept.Generation p) piped.whole tt;
      fresh = λ a unknown other.
          let was = piped.fresh a (sym (still a other) ∙ unknown) other in
          record { place = was.place; slot = was.slot; pipes = λ q own. ap (λ (t : Bool). if t then fresh else s.pipework.pipes a q) other ∙ was.pipes q own };
      fed = λ a x is alive borne. ⊎_elim
          (λ member. absurd (subst HasBorneLast (begun a x member is).past borne))
          (λ other. feed_push s t events (kept.Generation p) a tt (λ c runs awaiting. tt) (ap (λ (t : Bool). if t then None else s.pipework.programs a 0) other)
          (λ c runs awaiting. begun_awaiting s p c (child_named crew mouths actors s events piped a c runs) ∙ awaiting)
          (piped.fed a x (sym (still a other) ∙ is) alive borne))
          (whether (is_member a));
      awaited = λ c x there mail awaiting. ⊎_elim
          (λ member. let both : false ≡ true = sym (no_slot t c (piped.wired.members c member)) ∙ awaiting in absurd (cc))
          (λ other. awaited_on c (piped.awaited c x (sym (still c other) ∙ there) mail (sym (begun_awaiting s p c other) ∙ awaiting)))
          (whether (is_member c));
      count = inr (renews.four, refl);
      few = inr refl;
      many = subst (λ (l : List Held). 4 ≤ length (l ++ drop crew actors)) (sym new.are) (omega arith);
      seated = λ j z low at lives. renews.four;
    })
  where
    s : State
    s = known events

    t : State
    t = happens s (Generation (crew_at p))

    still : (a : List ℕ) → is_member a ≡ false → t.actors a ≡ s.actors a
    still a other = four_other s.actors (Sender p) (Cleaner p) (LocalSpawner p) (RemoteSpawner p) a other

    -- a new member has its pipes at its seat
    placed : (x : Held) (name : List ℕ) (program : ℕ → Program) → IsNewBy x name program × (is_member name ≡ true) → piped.wires x.name ≡ x.wire
    placed x name program is = ap piped.wires is.0.name_is ∙ piped.wired.seats name is.1 ∙ sym is.0.wire

    -- it runs the program of its seat, and has done nothing
    begun : (a : List ℕ) (x : Actor) → is_member a ≡ true → t.actors a ≡ Some x → HasBegunAt piped.wires a x
    begun a x member is = ⊎_elim
        (λ f. newly (codes "sender") (Sender p) refl tt f (sym (ap t.actors f ∙ four_sender s.actors (Sender p) (Cleaner p) (LocalSpawner p) (RemoteSpawner p)) ∙ is))
        (λ f. ⊎_elim
        (λ g. newly (codes "clean") (Cleaner p) refl tt g (sym (ap t.actors g ∙ four_clean s.actors (Sender p) (Cleaner p) (LocalSpawner p) (RemoteSpawner p)) ∙ is))
        (λ g. ⊎_elim
        (λ h. newly (codes "lspawn") (LocalSpawner p) refl tt h (sym (ap t.actors h ∙ four_lspawn s.actors (Sender p) (Cleaner p) (LocalSpawner p) (RemoteSpawner p)) ∙ is))
        (λ h. newly (codes "rspawn") (RemoteSpawner p) refl tt h (sym (ap t.actors h ∙ four_rspawn s.actors (Sender p) (Cleaner p) (LocalSpawner p) (RemoteSpawner p)) ∙ is))
        g) f)
        (member_cases a member)
      where
        newly : (name : List ℕ) (program : Program) → is_member name ≡ true → RunsBy (seat name) program → a ≡ name → ◌≡◌ {A = Option Actor} (Some (newborn program)) (Some x) → HasBegunAt piped.wires a x
        newly name program seated runs named both =
            let same : newborn program ≡ x = cc in
            subst (HasBegunAt piped.wires a) same (record {
              runs = subst (λ (o : Option ℕ). RunsBy o program) (sym (ap piped.wires named ∙ piped.wired.seats name seated)) runs;
              past = refl;
            })

    -- who awaits its input was started by an actor that lives, so by no member
    awaited_on : (c : List ℕ) → IsAwaited s c → IsAwaited t c
    awaited_on c was = ⊎_elim
        (λ member. absurd (over was.parent was.actor member was.is was.alive))
        (λ other. record {
          parent = was.parent;
          runs = ap (λ (t : Bool). if t then None else s.pipework.programs was.parent 0) other ∙ was.runs;
          actor = was.actor;
          is = still was.parent other ∙ was.is;
          alive = was.alive;
          borne = was.borne;
        })
        (whether (is_member was.parent))

    -- what holds of the new members and of those that were there holds of all
    each_then : (P : Held → Type 0) → ((x : Held) (name : List ℕ) (program : ℕ → Program) → IsNewBy x name program × (is_member name ≡ true) → P x)
        → ((i : ℕ) (x : Held) → slice_get actors i ≡ Some x → P x) → (j : ℕ) (z : Held) → slice_get (four ++ drop crew actors) j ≡ Some z → P z
    each_then P newly old j z at =
        each_of (λ i (x : Held). P x) new.sender new.clean new.lspawn new.rspawn (drop crew actors)
        (newly new.sender (codes "sender") Sender (new.sender_is, refl)) (newly new.clean (codes "clean") Cleaner (new.clean_is, refl))
        (newly new.lspawn (codes "lspawn") LocalSpawner (new.lspawn_is, refl)) (newly new.rspawn (codes "rspawn") RemoteSpawner (new.rspawn_is, refl))
        (λ i x is. old (crew + i) x (sym (get_drop crew actors i) ∙ is))
        j z (subst (λ (l : List Held). slice_get (l ++ drop crew actors) j ≡ Some z) new.are at)
