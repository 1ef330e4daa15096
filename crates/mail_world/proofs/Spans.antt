-- The life of an actor, by the kept events.
use Rattle.std.proofs.Common.{◌≡◌, ℕ, suc, List, [], ◌∷◌, ◌++◌, length, Bool, true, false, if◌then◌else◌, refl, ap, ◌∙◌, reverse, bytes_eq}
use Rattle.std.proofs.lemmas.List.{reverse-append, length-reverse}
use Rattle.world_events.specs.declared.event.Event.{Event as Kept}
use Rattle.world_events.specs.declared.event.Event.TheVariants as kept
use Rattle.world_events.specs.Inputs.{with_texts, start_with, with_inputs}
use Rattle.mail_world.specs.World.{Span, span_after, span_of, starts, ends}
use Rattle.mail_world.specs.World.Span.{Unborn, Lasting, OverAt}

-- one event more
pub span_push : (events : List Kept) (k : Kept) (a : List ℕ) → span_of a (reverse (events ++ k ∷ [])) ≡ span_after a k (length events) (span_of a (reverse events))
span_push events k a = ap (span_of a) (reverse-append events (k ∷ [])) ∙ ap (λ n. span_after a k n (span_of a (reverse events))) (length-reverse events)

-- an event that neither starts that actor nor ends its life
pub span_still : (a : List ℕ) (k : Kept) (n : ℕ) (s : Span) → starts a k ≡ false → ends a k ≡ false → span_after a k n s ≡ s
span_still a k n Unborn no_start no_end = ap (λ (b : Bool). if b then Lasting else Unborn) no_start
span_still a k n Lasting no_start no_end = ap (λ (b : Bool). if b then OverAt n else Lasting) no_end
span_still a k n (OverAt at) no_start no_end = ap (λ (b : Bool). if b then Lasting else OverAt at) no_start

pub span_stays : (events : List Kept) (k : Kept) (a : List ℕ) → starts a k ≡ false → ends a k ≡ false → span_of a (reverse (events ++ k ∷ [])) ≡ span_of a (reverse events)
span_stays events k a no_start no_end = span_push events k a ∙ span_still a k (length events) (span_of a (reverse events)) no_start no_end

-- a start and an end
pub span_begins : (a : List ℕ) (k : Kept) (n : ℕ) (s : Span) → s ≡ Unborn → starts a k ≡ true → span_after a k n s ≡ Lasting
span_begins a k n s was starts_it = ap (span_after a k n) was ∙ ap (λ (b : Bool). if b then Lasting else Unborn) starts_it

pub span_ends : (a : List ℕ) (k : Kept) (n : ℕ) (s : Span) → s ≡ Lasting → ends a k ≡ true → span_after a k n s ≡ OverAt n
span_ends a k n s was ends_it = ap (span_after a k n) was ∙ ap (λ (b : Bool). if b then OverAt n else Lasting) ends_it

-- the life of an actor is the same, whatever input stands in the start of a child

pub length_with : (c message envelope : List ℕ) (ks : List Kept) → length (start_with c message envelope ks) ≡ length ks
length_with c message envelope [] = refl
length_with c message envelope ((kept.Child a own b program) ∷ before) = by_test (bytes_eq b c) (length_with c message envelope before) where
  by_test : (t : Bool) → length (start_with c message envelope before) ≡ length before
      → length (if t then kept.Child a own b (with_texts message envelope program) ∷ before else (kept.Child a own b program ∷ start_with c message envelope before)) ≡ suc (length before)
  by_test true rest = refl
  by_test false rest = ap suc rest
length_with c message envelope (k ∷ before) = ap suc (length_with c message envelope before)

pub length_inputs : (ks : List Kept) → length (with_inputs ks) ≡ length ks
length_inputs [] = refl
length_inputs ((kept.Feed a own c message envelope) ∷ before) = ap suc (length_with c message envelope (with_inputs before) ∙ length_inputs before)
length_inputs (k ∷ before) = ap suc (length_inputs before)

-- an event after events that count the same and tell the same of that actor
span_alike : (a : List ℕ) (k : Kept) (ks ls : List Kept) → length ks ≡ length ls → span_of a ks ≡ span_of a ls → span_of a (k ∷ ks) ≡ span_of a (k ∷ ls)
span_alike a k ks ls many same = ap (λ (n : ℕ). span_after a k n (span_of a ks)) many ∙ ap (span_after a k (length ls)) same

pub span_with : (a c message envelope : List ℕ) (ks : List Kept) → span_of a (start_with c message envelope ks) ≡ span_of a ks
span_with a c message envelope [] = refl
span_with a c message envelope ((kept.Child d own b program) ∷ before) = by_test (bytes_eq b c) (span_with a c message envelope before) where
  by_test : (t : Bool) → span_of a (start_with c message envelope before) ≡ span_of a before
      → span_of a (if t then kept.Child d own b (with_texts message envelope program) ∷ before else (kept.Child d own b program ∷ start_with c message envelope before))
      ≡ span_of a (kept.Child d own b program ∷ before)
  by_test true rest = refl
  by_test false rest = span_alike a (kept.Child d own b program) (start_with c message envelope before) before (length_with c message envelope before) rest
span_with a c message envelope (k ∷ before) =
    span_alike a k (start_with c message envelope before) before (length_with c message envelope before) (span_with a c message envelope before)

pub span_inputs : (a : List ℕ) (ks : List Kept) → span_of a (with_inputs ks) ≡ span_of a ks
span_inputs a [] = refl
span_inputs a ((kept.Feed b own c message envelope) ∷ before) =
    span_alike a (kept.Act b own) (start_with c message envelope (with_inputs before)) before
    (length_with c message envelope (with_inputs before) ∙ length_inputs before) (span_with a c message envelope (with_inputs before) ∙ span_inputs a before)
span_inputs a (k ∷ before) = span_alike a k (with_inputs before) before (length_inputs before) (span_inputs a before)
