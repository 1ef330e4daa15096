-- The names of the injectors of bounces and of forwards, and of local deliveries.
use Rattle.std.proofs.Common.{◌≡◌, ◌≢◌, ℕ, ◌+◌, List, false, Option, Some, None, refl, arith}
use Rattle.std.specs.Option.{option_map}
use Rattle.actor_names.specs.ChildNames.{bounce_name, delivery_name, forward_of}
use Rattle.actor_names.specs.MailNames.{IsMailName}
use Rattle.actor_names.proofs.Children.{same_letter, same_number, no_mail}
use Rattle.world_events.specs.Places.{among_all}
use Rattle.world_pipes.specs.Pipework.{is_member}

-- no mail has such a name
pub mail_no_bounce : (a : List ℕ) (n : ℕ) → IsMailName a → bounce_name n ≢ a
mail_no_bounce a n is = no_mail 98 n a is

pub mail_no_delivery : (a : List ℕ) (n : ℕ) → IsMailName a → delivery_name n ≢ a
mail_no_delivery a n is = no_mail 108 n a is

pub mail_no_forward : (a : List ℕ) (n : ℕ) → IsMailName a → forward_of (delivery_name n) ≢ a
mail_no_forward a n is = no_mail 102 n a is

-- each has another one
pub bounce_other : (m n : ℕ) → bounce_name m ≡ bounce_name n → m ≡ n
bounce_other m n same = same_number 98 m n same

pub delivery_other : (m n : ℕ) → delivery_name m ≡ delivery_name n → m ≡ n
delivery_other m n same = same_number 108 m n same

pub forward_other : (m n : ℕ) → forward_of (delivery_name m) ≡ forward_of (delivery_name n) → m ≡ n
forward_other m n same = same_number 102 m n same

pub bounce_delivery : (m n : ℕ) → bounce_name m ≢ delivery_name n
bounce_delivery m n same = let letter = same_letter 98 108 m n same in omega (arith, letter)

pub bounce_forward : (m n : ℕ) → bounce_name m ≢ forward_of (delivery_name n)
bounce_forward m n same = let letter = same_letter 98 102 m n same in omega (arith, letter)

pub delivery_forward : (m n : ℕ) → delivery_name m ≢ forward_of (delivery_name n)
delivery_forward m n same = let letter = same_letter 108 102 m n same in omega (arith, letter)

-- no member has one
pub bounce_mail : (n : ℕ) → is_member (bounce_name n) ≡ false
bounce_mail n = refl

pub delivery_mail : (n : ℕ) → is_member (delivery_name n) ≡ false
delivery_mail n = refl

pub forward_mail : (n : ℕ) → is_member (forward_of (delivery_name n)) ≡ false
forward_mail n = refl

mapped_none : (crew : ℕ) (o : Option ℕ) → option_map (λ i. crew + i) o ≡ None → option_map (λ i. 4 + i) o ≡ None
mapped_none crew None is = refl
mapped_none crew (Some i) is = absurd (cc)

-- who stands nowhere stands nowhere after the start of a generation
pub bounce_begun : (crew : ℕ) (places : List ℕ → Option ℕ) (n : ℕ) → among_all crew places (bounce_name n) ≡ None → among_all 4 places (bounce_name n) ≡ None
bounce_begun crew places n is = mapped_none crew (places (bounce_name n)) is

pub delivery_begun : (crew : ℕ) (places : List ℕ → Option ℕ) (n : ℕ) → among_all crew places (delivery_name n) ≡ None → among_all 4 places (delivery_name n) ≡ None
delivery_begun crew places n is = mapped_none crew (places (delivery_name n)) is

pub forward_begun : (crew : ℕ) (places : List ℕ → Option ℕ) (n : ℕ) → among_all crew places (forward_of (delivery_name n)) ≡ None → among_all 4 places (forward_of (delivery_name n)) ≡ None
forward_begun crew places n is = mapped_none crew (places (forward_of (delivery_name n))) is
