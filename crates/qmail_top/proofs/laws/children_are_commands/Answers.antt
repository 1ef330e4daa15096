use Rattle.std.proofs.Common.{◌≡◌, ◌∙◌, Bool, true, false, List, ℕ, [], ◌∷◌, Option, Decides, ◌==◌, cond, refl, ap, arith}
use Rattle.std.specs.Prelude.{unwrap_or}
use Rattle.std.proofs.lemmas.Bool.Decides.{Decides-eqb}
use Rattle.command_words.specs.Reads.{IsNoOption}
use Rattle.command_words.proofs.Delivered.{delivered_words}
use Rattle.command_words.proofs.Members.{clean_dir, lspawn_dir, rspawn_two}
use Rattle.command_words.proofs.Walks.{bounce_words, forward_words}
use Rattle.command_words.specs.declared.command.Command.{Command}
use Rattle.program_runner.specs.ChildWords.{dir_word}
use Rattle.qmail_top.proofs.laws.children_are_commands.Goals as goal

apart : (x : ℕ) → x ≡ 46 → x ≡ 45 → ⊥
apart x is other = absurd (omega arith)

-- a directory as a child is told it is no option
by_first : (is : Bool) (b : ℕ) (rest : List ℕ) → Decides is (b ≡ 45) → IsNoOption (cond is (46 ∷ 47 ∷ b ∷ rest) (b ∷ rest))
by_first true b rest same e = apart 46 refl (ap (λ (o : Option ℕ). unwrap_or o 0) e)
by_first false b rest same e =
    let first : b ≡ 45 = ap (λ (o : Option ℕ). unwrap_or o 0) e in
    let fails : false ≡ true = same.1 first in
    absurd (cc)

no_option : (dir : List ℕ) → IsNoOption (dir_word dir)
no_option [] e = absurd (cc)
no_option (b ∷ rest) e = by_first (b == 45) b rest (Decides-eqb b 45) e

three : (a b c x y z : Option Command) → a ≡ x → b ≡ y → c ≡ z → a ∷ b ∷ c ∷ [] ≡ x ∷ y ∷ z ∷ []
three a b c x y z p q r = ap (λ o. o ∷ b ∷ c ∷ []) p ∙ ap (λ o. x ∷ o ∷ c ∷ []) q ∙ ap (λ o. x ∷ y ∷ o ∷ []) r

pub returns : goal.returns
returns c = record {
  delivery = λ dir slot d n small fits. delivered_words (dir_word dir) d n (no_option dir) small fits;
  forward = λ dir n room fits. forward_words (dir_word dir) n (no_option dir) fits;
  bounce = λ dir room. bounce_words (dir_word dir) (no_option dir);
  links = λ dir program off some.
      three _ _ _ _ _ _ (clean_dir (dir_word dir) (no_option dir)) (lspawn_dir (dir_word dir) (no_option dir)) (rspawn_two (dir_word dir) program (no_option dir) off some);
}
