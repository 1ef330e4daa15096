-- A script that is made: all was given of its opening and its first mails but what is held.
use Rattle.std.proofs.Common.{◌≡◌, ℕ, ◌+◌, ◌≤◌, List, [], ◌++◌, Option, sym, ap, ◌∙◌, append_assoc, append-nil}
use Rattle.std.specs.Fn.{iterate}
use Rattle.mail_bytes.specs.Told.{Meets}
use Rattle.outside.specs.Streams.{Gives}
use Rattle.outside.specs.declared.sink.Gave.TheVariants as gave
use Rattle.script_maker.specs.Mails.{after_mail, mail}
use Rattle.script_maker.specs.Script.{closing, mails, opening, script_of}
use Rattle.script_maker.specs.inside.Pieces.{GivesBut}
use Rattle.script_maker.proofs.Drawn.{begins, mails_more}
use Rattle.script_maker.proofs.Pieces.{all_given, more_held, piece_failed, stopped}

module _ (seed k : ℕ) (held : List ℕ) (before mid : Option (List ℕ)) (taken : Meets before mid (GivesBut held (opening ++ mails seed k))) where
  -- the next mail is held too
  pub next_held : (x : ℕ) (fuller : List ℕ) → x ≡ iterate after_mail k seed → fuller ≡ held ++ mail x (k + 1) → Meets before mid (GivesBut fuller (opening ++ mails seed (k + 1)))
  next_held x fuller at is = more_held held (opening ++ mails seed k) before mid taken (mail x (k + 1)) fuller (opening ++ mails seed (k + 1)) is
      (ap (λ (y : ℕ). (opening ++ mails seed k) ++ mail y (k + 1)) at ∙ mails_more opening seed k)

  -- no more is given
  pub left_there : (count : ℕ) → k ≤ count → Meets before mid (Gives gave.Failed (script_of seed count))
  left_there count h = let rest = begins seed k count h in stopped held (opening ++ mails seed k) before mid taken rest.0 (script_of seed count) rest.1

  -- giving what is held failed
  pub failed_there : (count : ℕ) (after : Option (List ℕ)) → k ≤ count → Meets mid after (Gives gave.Failed held) → Meets before after (Gives gave.Failed (script_of seed count))
  failed_there count after h told = let rest = begins seed k count h in piece_failed held (opening ++ mails seed k) before mid taken rest.0 (script_of seed count) after rest.1 told

  -- the last lines are held too, and were given, or giving them failed
  module _ (fuller : List ℕ) (is : fuller ≡ held ++ closing) where
    last_held : Meets before mid (GivesBut fuller (script_of seed k))
    last_held = more_held held (opening ++ mails seed k) before mid taken closing fuller (script_of seed k) is (append_assoc opening (mails seed k) closing)

    pub last_given : (after : Option (List ℕ)) → Meets mid after (Gives gave.Done fuller) → Meets before after (Gives gave.Done (script_of seed k))
    last_given after told = all_given fuller (script_of seed k) before mid last_held after told

    pub last_failed : (after : Option (List ℕ)) → Meets mid after (Gives gave.Failed fuller) → Meets before after (Gives gave.Failed (script_of seed k))
    last_failed after told = piece_failed fuller (script_of seed k) before mid last_held [] (script_of seed k) after (sym (append-nil (script_of seed k))) told
