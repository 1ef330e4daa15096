-- Calls in a row on a disk that may tell what it holds.
use Rattle.std.proofs.Common.{Option, Some, None}
use Rattle.mail_bytes.specs.Told.{Meets, OnTold}

pub told_weaker : {X : Type 0} (a b : Option X) {P Q : X → X → Type 0} → ((x y : X) → P x y → Q x y) → Meets a b P → Meets a b Q
told_weaker None None f h = tt
told_weaker None (Some y) f h = absurd h
told_weaker (Some x) None f h = absurd h
told_weaker (Some x) (Some y) f h = f x y h

-- two calls in a row
pub told_then : {X : Type 0} (P Q : X → X → Type 0) (a b c : Option X) → Meets a b P → Meets b c Q → Meets a c (λ x z. (y : X) × P x y × Q y z)
told_then P Q None None None h k = tt
told_then P Q None None (Some z) h k = absurd k
told_then P Q None (Some y) c h k = absurd h
told_then P Q (Some x) None c h k = absurd h
told_then P Q (Some x) (Some y) None h k = absurd k
told_then P Q (Some x) (Some y) (Some z) h k = (y, h, k)

-- what a call leaves
pub told_after : {X : Type 0} (a b : Option X) {P : X → X → Type 0} {Q : X → Type 0} → ((x y : X) → P x y → Q y) → Meets a b P → OnTold b Q
told_after None None f h = tt
told_after None (Some y) f h = absurd h
told_after (Some x) None f h = absurd h
told_after (Some x) (Some y) f h = f x y h
