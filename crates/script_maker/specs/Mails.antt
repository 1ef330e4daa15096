-- The mails of a script that is made, by numbers that are drawn. With x 1, mail 1 is
-- `mail m1 s49@h.example r4@h.example r9@h.example r9@h.example : body 1%0A` and `run m1`.
use Rattle.std.specs.Prelude.{ℕ, ◌+◌, ◌*◌, ◌%◌, ◌==◌, List, ◌∷◌, ◌++◌, codes, flat_map, if◌then◌else◌}
use Rattle.std.specs.Fn.{iterate}
use Rattle.std.specs.List.{range_with_len}
use Rattle.mail_bytes.specs.Decimal.{digits}
use Rattle.mail_bytes.specs.Texts.{line}
use Rattle.call_fs.specs.Choices.{drawn}

-- the n-th number that is drawn after x
abbrev pub draw : ℕ → ℕ → ℕ
draw x n = iterate drawn n x

-- a name that ends in a number, `@` and a host
abbrev pub address : List ℕ → ℕ → List ℕ → List ℕ
address name number host = name ++ (digits number ++ 64 ∷ host)

-- `s0@h.example` to `s99@h.example`
abbrev pub sender : ℕ → List ℕ
sender d = address (codes "s") (d % 100) (codes "h.example")

-- `u0@localhost` to `u9@localhost` if the first draw is even, otherwise `r0@h.example` to `r9@h.example`
abbrev pub recipient : ℕ → ℕ → List ℕ
recipient d e = if d % 2 == 0 then address (codes "u") (e % 10) (codes "localhost") else address (codes "r") (e % 10) (codes "h.example")

-- so many recipients, each after a space, and each by the next two numbers that are drawn after x
abbrev pub recipients_after : ℕ → ℕ → List ℕ
recipients_after x count = flat_map (λ i. 32 ∷ recipient (draw x (1 + 2 * i)) (draw x (2 + 2 * i))) (range_with_len 0 count)

-- how many recipients a mail has: 1 to 3
abbrev pub recipients : ℕ → ℕ
recipients x = 1 + draw x 2 % 3

-- The two lines of mail k, where x was drawn before it: one draw for the sender, one for how many recipients, two for each.
unfoldable pub mail : ℕ → ℕ → List ℕ
mail x k =
    line (codes "mail m" ++ (digits k ++ (32 ∷ (sender (draw x 1) ++ (recipients_after (draw x 2) (recipients x) ++ (codes " : body " ++ (digits k ++ codes "%0A")))))))
    ++ line (codes "run m" ++ digits k)

-- the number that was drawn last for that mail
abbrev pub after_mail : ℕ → ℕ
after_mail x = draw x (2 + 2 * recipients x)
