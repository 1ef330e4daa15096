-- A script that is made: a user with a maildir, mails, and a sender.
use Rattle.std.specs.Prelude.{ℕ, ◌+◌, List, [], ◌∷◌, ◌++◌, codes, flat_map}
use Rattle.std.specs.Fn.{iterate}
use Rattle.std.specs.List.{range_with_len}
use Rattle.mail_bytes.specs.Texts.{line}
use Rattle.script_maker.specs.Mails.{after_mail, mail}

-- the lines before the mails: everybody at localhost whose name begins with `u` is one user, with one maildir
unfoldable pub opening : List ℕ
opening = flat_map line (codes "file users/assign : +u:u:1000:1000:home/u:-::%0A.%0A"
    ∷ codes "file home/u/.qmail-default : ./Maildir/%0A"
    ∷ codes "dir home/u/Maildir/tmp"
    ∷ codes "dir home/u/Maildir/new"
    ∷ codes "dir home/u/Maildir/cur" ∷ [])

-- the lines of the first mails, from mail 1 on; what was drawn before the first one is the seed
unfoldable pub mails : ℕ → ℕ → List ℕ
mails seed count = flat_map (λ k. mail (iterate after_mail k seed) (k + 1)) (range_with_len 0 count)

-- the lines after the mails
unfoldable pub closing : List ℕ
closing = flat_map line (codes "sender" ∷ codes "settle K" ∷ codes "sum" ∷ [])

-- the script of a seed with so many mails
abbrev pub script_of : ℕ → ℕ → List ℕ
script_of seed count = opening ++ (mails seed count ++ closing)
