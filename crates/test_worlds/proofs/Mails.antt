-- A mail more of those that a world has.
use Rattle.std.proofs.Common.{◌≡◌, ℕ, List, [], ◌∷◌, ◌++◌, sym, ap, ◌∙◌, subst}
use Rattle.mail_world.specs.World.{Seen, started_world}
use Rattle.mail_world.specs.LivingMails.{AreLivingMails}
use Rattle.mail_world.proofs.LivingMails.{mail_starts}

-- its name is put at the end of those of the others
pub mail_put : {D : Type 0} (old new : Seen D) (before room after : List (List ℕ)) (a copied message envelope : List ℕ) → new ≡ started_world old a message envelope → room ≡ before → copied ≡ a → after ≡ room ++ copied ∷ [] → AreLivingMails old.events before
    → AreLivingMails new.events after
mail_put {D} old new before room after a copied message envelope started same name put m =
    let events = ap (λ (w : Seen D). w.events) started in
    let mails : before ++ a ∷ [] ≡ after = sym (put ∙ (ap (λ (l : List (List ℕ)). l ++ copied ∷ []) same ∙ ap (λ (n : List ℕ). before ++ n ∷ []) name)) in
    subst (AreLivingMails new.events) mails (subst (λ l. AreLivingMails l (before ++ a ∷ [])) (sym events) (mail_starts old.events before a _ m))
