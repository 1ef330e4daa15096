-- The names of children: of the injectors of bounces, of local deliveries, and of the injectors of what these forward.
use Rattle.std.specs.Prelude.{ℕ, List, [], ◌∷◌}
use Rattle.mail_bytes.specs.Decimal.{digits}

-- `b.` and the number of the bounce in decimal. The first one is `b.1`.
abbrev pub bounce_name : ℕ → List ℕ
bounce_name number = 98 ∷ 46 ∷ digits number

-- `l.` and the number of the delivery in decimal. The first one is `l.1`.
abbrev pub delivery_name : ℕ → List ℕ
delivery_name number = 108 ∷ 46 ∷ digits number

-- The injector of what a delivery forwards has the number of that delivery: for `l.7` it is `f.7`.
abbrev pub forward_of : List ℕ → List ℕ
forward_of [] = []
forward_of (letter ∷ rest) = 102 ∷ rest
