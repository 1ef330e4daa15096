-- A text that is given in pieces.
use Rattle.std.proofs.Common.{◌≡◌, ℕ, ◌≤◌, List, [], ◌++◌, length, take, drop, Option, Some, None, Result, Ok, Err, OnOk, OnErr, sym, ap, ◌∙◌, arith, append_assoc, append-nil, length-append}
use Rattle.std.proofs.lemmas.List.{take_all, take-append-drop, take-append-le}
use Rattle.mail_bytes.specs.Told.{Meets}
use Rattle.outside.specs.Streams.{Gives}
use Rattle.outside.specs.declared.sink.Gave.TheVariants as gave
use Rattle.script_maker.specs.inside.Pieces.{GivesBut}

-- one after the other, of a value that may tell
joined : {X : Type 0} (P Q R : X → X → Type 0) → ((x y z : X) → P x y → Q y z → R x z) → (a b c : Option X) → Meets a b P → Meets b c Q → Meets a c R
joined P Q R by (Some x) (Some y) (Some z) p q = by x y z p q
joined P Q R by None None None p q = tt
joined P Q R by (Some x) None c p q = absurd p
joined P Q R by None (Some y) c p q = absurd p
joined P Q R by (Some x) (Some y) None p q = absurd q
joined P Q R by None None (Some z) p q = absurd q

each : {X : Type 0} (P R : X → X → Type 0) → ((x y : X) → P x y → R x y) → (a b : Option X) → Meets a b P → Meets a b R
each P R by (Some x) (Some y) p = by x y p
each P R by None None p = tt
each P R by (Some x) None p = absurd p
each P R by None (Some y) p = absurd p

same : {X : Type 0} (P : X → X → Type 0) → ((x : X) → P x x) → (a : Option X) → Meets a a P
same P by None = tt
same P by (Some x) = by x

-- nothing was given yet
pub none_given : (held text : List ℕ) (o : Option (List ℕ)) → text ≡ held → Meets o o (GivesBut held text)
none_given held text o e = same (GivesBut held text) (λ x. ([], e, sym (append-nil x))) o

pub none_taken : (text : List ℕ) (o : Option (List ℕ)) → Meets o o (Gives gave.Failed text)
none_taken text o = same (Gives gave.Failed text) (λ x. (0, omega arith, sym (append-nil x))) o

-- the first bytes of a text
front : (given rest text : List ℕ) → text ≡ given ++ rest → (length given ≤ length text) × (take (length given) text ≡ given)
front given rest text e = (
  omega (arith, ap length e ∙ length-append given rest),
  ap (take (length given)) e ∙ take-append-le (length given) given rest (omega arith) ∙ take_all (length given) given (omega arith),
)

-- Of a text all was given but what is held.
module _ (held text : List ℕ) (before mid : Option (List ℕ)) (taken : Meets before mid (GivesBut held text)) where
  -- more is held
  pub more_held : (more fuller longer : List ℕ) → fuller ≡ held ++ more → text ++ more ≡ longer → Meets before mid (GivesBut fuller longer)
  more_held more fuller longer e l = each (GivesBut held text) (GivesBut fuller longer)
      (λ x y is. (
        is.0,
        sym l ∙ ap (λ (t : List ℕ). t ++ more) is.1 ∙ append_assoc is.0 held more ∙ ap (λ (t : List ℕ). is.0 ++ t) (sym e),
        is.2,
      )) before mid taken

  -- a piece of what is held was given
  pub piece_given : (left : List ℕ) (after : Option (List ℕ)) → Meets mid after (GivesBut left held) → Meets before after (GivesBut left text)
  piece_given left after told = joined (GivesBut held text) (GivesBut left held) (GivesBut left text)
      (λ x y z is more. (
        is.0 ++ more.0,
        is.1 ∙ ap (λ (t : List ℕ). is.0 ++ t) more.1 ∙ sym (append_assoc is.0 more.0 left),
        more.2 ∙ ap (λ (t : List ℕ). t ++ more.0) is.2 ∙ append_assoc x is.0 more.0,
      )) before mid after taken told

  -- all of what is held was given
  pub all_given : (after : Option (List ℕ)) → Meets mid after (Gives gave.Done held) → Meets before after (Gives gave.Done text)
  all_given after told = joined (GivesBut held text) (Gives gave.Done held) (Gives gave.Done text)
      (λ x y z is more. more ∙ ap (λ (t : List ℕ). t ++ held) is.2 ∙ append_assoc x is.0 held ∙ ap (λ (t : List ℕ). x ++ t) (sym is.1)) before mid after taken told

  -- the rest isn't given
  pub stopped : (rest longer : List ℕ) → longer ≡ text ++ rest → Meets before mid (Gives gave.Failed longer)
  stopped rest longer e = each (GivesBut held text) (Gives gave.Failed longer)
      (λ x y is.
      let begins = front is.0 (held ++ rest) longer (e ∙ ap (λ (t : List ℕ). t ++ rest) is.1 ∙ append_assoc is.0 held rest) in
      (length is.0, begins.0, is.2 ∙ ap (λ (t : List ℕ). x ++ t) (sym begins.1))) before mid taken

  -- a part of what is held was given, and nothing after it
  pub piece_failed : (rest longer : List ℕ) (after : Option (List ℕ)) → longer ≡ text ++ rest → Meets mid after (Gives gave.Failed held) → Meets before after (Gives gave.Failed longer)
  piece_failed rest longer after e told = joined (GivesBut held text) (Gives gave.Failed held) (Gives gave.Failed longer)
      (λ x y z is more.
      let cut : held ≡ take more.0 held ++ drop more.0 held = sym (take-append-drop more.0 held) in
      let whole : longer ≡ (is.0 ++ take more.0 held) ++ (drop more.0 held ++ rest) =
      e ∙ ap (λ (t : List ℕ). t ++ rest) (is.1 ∙ ap (λ (t : List ℕ). is.0 ++ t) cut) ∙ regrouped is.0 (take more.0 held) (drop more.0 held) rest in
      let begins = front (is.0 ++ take more.0 held) (drop more.0 held ++ rest) longer whole in (
        length (is.0 ++ take more.0 held),
        begins.0,
        more.2 ∙ ap (λ (t : List ℕ). t ++ take more.0 held) is.2 ∙ append_assoc x is.0 (take more.0 held) ∙ ap (λ (t : List ℕ). x ++ t) (sym begins.1),
      )) before mid after taken told where
        regrouped : (a b c d : List ℕ) → (a ++ (b ++ c)) ++ d ≡ (a ++ b) ++ (c ++ d)
        regrouped a b c d = simp append_assoc

-- what follows if a result is one
pub on_ok : {T E : Type 0} (P Q : Type 0) (r : Result T E) → (P → Q) → OnOk r P → OnOk r Q
on_ok P Q (Ok x) by p = by p
on_ok P Q (Err e) by p = tt

pub on_err : {T E : Type 0} (P Q : Type 0) (r : Result T E) → (P → Q) → OnErr r P → OnErr r Q
on_err P Q (Ok x) by p = tt
on_err P Q (Err e) by p = by p

pub if_err : {T E : Type 0} (P : Type 0) (r : Result T E) → P → OnErr r P
if_err P (Ok x) p = tt
if_err P (Err e) p = p
