-- Mails that start live, and go on living while others start.
use Rattle.std.proofs.Common.{◌≡◌, ℕ, List, [], ◌∷◌, ◌++◌, arith, length, Bool, true, false, if◌then◌else◌, All, reverse, refl, sym, ap, ◌∙◌, subst, append-nil, Result, Ok, Err}
use Rattle.std.specs.Prelude.{OnOk, OnErr}
use Rattle.std.proofs.lemmas.Grind.{flat_map-append}
use Rattle.std.proofs.lemmas.List.Elements.{All-push}
use Rattle.std.proofs.lemmas.Slice.Eq.{bytes_eq-Decides}
use Rattle.world_events.specs.declared.event.Event.{Event as Kept}
use Rattle.world_events.specs.declared.event.Event.TheVariants as kept
use Rattle.world_events.specs.declared.event.Program.{Program}
use Rattle.world_events.specs.declared.answers.WorldError.{WorldError}
use Rattle.mail_world.specs.Generations.{generation_world}
use Rattle.mail_world.specs.World.{Seen, Span, span_after, span_of, starts, ends}
use Rattle.mail_world.specs.World.Span.{Unborn, Lasting, OverAt}
use Rattle.mail_world.specs.LivingMails.{mail_in, mails_in, AreLivingMails}
use Rattle.mail_world.proofs.Spans.{span_push}

-- who starts, lives
started : (a : List ℕ) (k : Kept) (n : ℕ) (s : Span) → starts a k ≡ true → ends a k ≡ false → span_after a k n s ≡ Lasting
started a k n Unborn start none = ap (λ (b : Bool). if b then Lasting else Unborn) start
started a k n Lasting start none = ap (λ (b : Bool). if b then OverAt n else Lasting) none
started a k n (OverAt at) start none = ap (λ (b : Bool). if b then Lasting else OverAt at) start

-- who lives goes on living, if it doesn't end
goes_on_living : (a : List ℕ) (k : Kept) (n : ℕ) (s : Span) → s ≡ Lasting → ends a k ≡ false → span_after a k n s ≡ Lasting
goes_on_living a k n s was none = ap (span_after a k n) was ∙ ap (λ (b : Bool). if b then OverAt n else Lasting) none

all_live_on : (events : List Kept) (k : Kept) (mails : List (List ℕ)) → ((a : List ℕ) → ends a k ≡ false) → All (λ a. span_of a (reverse events) ≡ Lasting) mails
    → All (λ a. span_of a (reverse (events ++ k ∷ [])) ≡ Lasting) mails
all_live_on events k mails none live i d within = span_push events k _ ∙ goes_on_living _ k (length events) _ (live i d within) (none _)

-- a world in which nothing has happened has no mail
pub no_mails : AreLivingMails [] []
no_mails = record { are = refl; live = λ i d within. absurd (omega arith) }

-- a mail starts
pub mail_starts : (events : List Kept) (mails : List (List ℕ)) (a : List ℕ) (program : Program) → AreLivingMails events mails → AreLivingMails (events ++ kept.Start a program ∷ []) (mails ++ a ∷ [])
mail_starts events mails a program m =
    let k : Kept = kept.Start a program in record {
      are = flat_map-append mail_in events (k ∷ []) ∙ ap (λ (l : List (List ℕ)). l ++ a ∷ []) m.are;
      live = All-push (λ (b : List ℕ). span_of b (reverse (events ++ k ∷ [])) ≡ Lasting) mails a
          (all_live_on events k mails (λ b. refl) m.live)
          (span_push events k a ∙ started a k (length events) (span_of a (reverse events)) ((bytes_eq-Decides a a).1 refl) refl);
    }

-- a generation starts
pub generation_starts : (events : List Kept) (mails : List (List ℕ)) (start : ℕ) → AreLivingMails events mails → AreLivingMails (events ++ kept.Generation start ∷ []) mails
generation_starts events mails start m =
    let k : Kept = kept.Generation start in record {
      are = flat_map-append mail_in events (k ∷ []) ∙ (append-nil (mails_in events) ∙ m.are);
      live = all_live_on events k mails (λ b. refl) m.live;
    }

-- a generation starts, or nothing happens
pub generation_starts_if : {D : Type 0} (r : Result (Unit {0}) WorldError) (old new : Seen D) (mails : List (List ℕ)) → OnOk r (new ≡ generation_world old) → OnErr r (new ≡ old)
    → AreLivingMails old.events mails → AreLivingMails new.events mails
generation_starts_if {D} (Ok done) old new mails started err m = subst (λ (w : Seen D). AreLivingMails w.events mails) (sym started) (generation_starts old.events mails old.present m)
generation_starts_if {D} (Err why) old new mails started err m = subst (λ (w : Seen D). AreLivingMails w.events mails) (sym err) m
