-- Posts that are asked until a child has ended.
use Rattle.std.proofs.Common.{◌≡◌, ℕ, ◌+◌, List, [], ◌∷◌, ◌++◌, length, All, true, false, refl, ◌∙◌, inl, inr, arith}
use Rattle.std.proofs.lemmas.List.{length-append}
use Rattle.std.proofs.lemmas.List.Elements.{All-nil, All-push}
use Rattle.outside.specs.declared.posts.Post.{Post}
use Rattle.outside.specs.declared.posts.Post.TheVariants as post
use Rattle.outside.specs.Children.{Posted, posted}
use Rattle.program_runner.specs.Runs.{most_turns}
use Rattle.program_runner.specs.Serving.{Answers, PostsTold}
use Rattle.program_runner.proofs.Members.{answered_nothing, answered_then}
use Rattle.local_command.specs.Commands.{is_end_of}
use Rattle.local_command.specs.Waiting.{HasAwaited}

-- so many posts were asked, none of which told the end
pub record Looked (chan count : ℕ) (old now : PostsTold) : Type 0 where
  pub asked : List Posted
  pub long : length asked ≡ count
  pub none : All (λ (p : Posted). is_end_of chan p.answer ≡ false) asked
  pub posts : Answers asked old now

pub begins : (chan : ℕ) (p : PostsTold) → Looked chan 0 p p
begins chan p = record { asked = []; long = refl; none = All-nil (λ (q : Posted). is_end_of chan q.answer ≡ false); posts = answered_nothing p }

same_end : (chan : ℕ) (answer : Post) (into : List ℕ) → is_end_of chan (posted answer into).answer ≡ is_end_of chan answer
same_end chan (post.Bytes from len) into = refl
same_end chan (post.End from) into = refl
same_end chan (post.Failed from) into = refl
same_end chan post.Turn into = refl

module _ (chan count : ℕ) (old mid new : PostsTold) (l : Looked chan count old mid) (answer : Post) (into : List ℕ) (one : Answers (posted answer into ∷ []) mid new) where
  longer : length (l.asked ++ posted answer into ∷ []) ≡ count + 1
  longer = let long = l.long in let sum = length-append l.asked (posted answer into ∷ []) in omega arith

  pub goes_on : is_end_of chan answer ≡ false → Looked chan (count + 1) old new
  goes_on isnt = record {
    asked = l.asked ++ posted answer into ∷ [];
    long = longer;
    none = All-push (λ (p : Posted). is_end_of chan p.answer ≡ false) l.asked (posted answer into) l.none (same_end chan answer into ∙ isnt);
    posts = answered_then l.asked (posted answer into ∷ []) old mid new l.posts one;
  }

  pub ends : is_end_of chan answer ≡ true → HasAwaited chan old new
  ends is = record {
    asked = l.asked ++ posted answer into ∷ [];
    awaits = inl (record { before = l.asked; last = posted answer into; asked_are = refl; none = l.none; end = same_end chan answer into ∙ is });
    posts = answered_then l.asked (posted answer into ∷ []) old mid new l.posts one;
  }

pub gives_up : (chan count : ℕ) (old new : PostsTold) → Looked chan count old new → count ≡ most_turns → HasAwaited chan old new
gives_up chan count old new l is = record { asked = l.asked; awaits = inr (l.long ∙ is); posts = l.posts }
