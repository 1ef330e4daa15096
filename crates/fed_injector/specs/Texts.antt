-- What an injector is given by its parent: two netstrings.
use Rattle.std.specs.Prelude.{◌≡◌, ℕ, List, ◌++◌}
use Rattle.call_fs.specs.declared.past.NeedData.{NeedData}
use Rattle.call_fs.specs.declared.past.NeedData.TheVariants.{Give}
use Rattle.mail_bytes.specs.Netstring.{netstring}

-- what is due to the parent gives these two texts
abbrev pub GivesTexts : NeedData → List ℕ → List ℕ → Type 0
GivesTexts (Give to bytes) message envelope = bytes ≡ netstring message ++ netstring envelope
GivesTexts other message envelope = ⊥

-- it gives two texts
pub record GivesTwo (due : NeedData) : Type 0 where
  pub message : List ℕ
  pub envelope : List ℕ
  pub are : GivesTexts due message envelope
