-- What the posts answered, one after another.
use Rattle.std.proofs.Common.{◌≡◌, ℕ, List, [], ◌∷◌, ◌++◌, flat_map, Bool, true, false, Option, Some, None, Ok, Err, Result, OnOk, IfOk, refl, sym, ap, ◌∙◌, subst, ⊎_elim, append_assoc, arith}
use Rattle.std.specs.declared.alloc.AllocError.{AllocError}
use Rattle.mail_bytes.specs.Told.{Meets, OnTold, Records}
use Rattle.outside.specs.Streams.{CountsFailures}
use Rattle.outside.specs.Children.{Arrival, Posted, IsFailedPost, Receives, arrivals, posted}
use Rattle.outside.specs.declared.posts.Post.{Post}
use Rattle.outside.specs.declared.posts.Post.TheVariants as post
use Rattle.outside.specs.declared.posts.Waiting.{Waiting}
use Rattle.program_runner.specs.Lines.{IsNoTurn, LineState, brought, piece_of}
use Rattle.std.specs.List.{All}
use Rattle.std.proofs.lemmas.List.Elements.{All-push}
use Rattle.program_runner.specs.Serving.{PostsTold, Answers, IsGathered, IsHeard}
use Rattle.program_runner.proofs.Deeds.{kept_one}
use Rattle.program_runner.proofs.Members.{answered_nothing, answered_then, flat_more}

nothing_more : {X : Type 0} (l : List X) → l ++ [] ≡ l
nothing_more [] = refl
nothing_more (x ∷ l) = ap (λ t. x ∷ t) (nothing_more l)

-- One post

receives : (answer : Post) (into : List ℕ) (before after : List Arrival) → Receives answer into before after → before ≡ flat_map arrivals (brought (posted answer into ∷ [])) ++ after
receives (post.Bytes chan len) into before after is = is ∙ ap (λ t. t ++ after) (sym (nothing_more _))
receives (post.End chan) into before after is = is
receives (post.Failed chan) into before after is = is
receives post.Turn into before after is = is.0 ∙ sym is.1

came : (answer : Post) (into : List ℕ) (a b : Option (List Arrival)) → Meets a b (Receives answer into)
    → Meets a b (λ before after. before ≡ flat_map arrivals (brought (posted answer into ∷ [])) ++ after)
came answer into None None m = tt
came answer into (Some x) (Some y) m = receives answer into x y m
came answer into (Some x) None m = absurd m
came answer into None (Some y) m = absurd m

failed_post : (answer : Post) (into : List ℕ) → IsFailedPost (posted answer into).answer → IsFailedPost answer
failed_post (post.Bytes chan len) into h = h
failed_post (post.End chan) into h = h
failed_post (post.Failed chan) into h = h
failed_post post.Turn into h = h

pub answered : (answer : Post) (into : List ℕ) (old new : PostsTold) → Meets old.waiting new.waiting (Receives answer into) → Records old.asked new.asked (posted answer into)
    → CountsFailures old.faults new.faults (IsFailedPost answer) → Answers (posted answer into ∷ []) old new
answered answer into old new waiting told cause = record {
  told = kept_one old.asked new.asked (posted answer into) told;
  waiting = came answer into old.waiting new.waiting waiting;
  counts = cause.later;
  cause = ⊎_elim (λ h. cause.rose (failed_post answer into h)) (λ h. absurd h);
}

a_turn : (answer : Post) (into : List ℕ) → [] ≡ piece_of answer (posted answer into).bytes → posted answer into ≡ record { answer = post.Turn; bytes = [] }
a_turn (post.Bytes chan len) into none = absurd (cc)
a_turn (post.End chan) into none = absurd (cc)
a_turn (post.Failed chan) into none = absurd (cc)
a_turn post.Turn into none = refl

no_turn : (answer : Post) (into : List ℕ) (piece : Waiting) → piece ∷ [] ≡ piece_of answer (posted answer into).bytes → IsNoTurn (posted answer into)
no_turn (post.Bytes chan len) into piece is = λ e. absurd (cc)
no_turn (post.End chan) into piece is = λ e. absurd (cc)
no_turn (post.Failed chan) into piece is = λ e. absurd (cc)
no_turn post.Turn into piece is = absurd (cc)

pieces : (answer : Post) (into : List ℕ) → piece_of answer (posted answer into).bytes ≡ piece_of (posted answer into).answer (posted answer into).bytes
pieces (post.Bytes chan len) into = refl
pieces (post.End chan) into = refl
pieces (post.Failed chan) into = refl
pieces post.Turn into = refl

none_at_turn : (answer : Post) (into : List ℕ) (a b : Option (List Arrival)) → [] ≡ piece_of answer (posted answer into).bytes → Meets a b (Receives answer into) → OnTold b (λ left. left ≡ [])
none_at_turn post.Turn into None None none m = tt
none_at_turn post.Turn into (Some x) (Some y) none m = m.1
none_at_turn post.Turn into (Some x) None none m = absurd m
none_at_turn post.Turn into None (Some y) none m = absurd m
none_at_turn (post.Bytes chan len) into a b none m = absurd (cc)
none_at_turn (post.End chan) into a b none m = absurd (cc)
none_at_turn (post.Failed chan) into a b none m = absurd (cc)

module _ (answer : Post) (into : List ℕ) (old new : PostsTold) (waiting : Meets old.waiting new.waiting (Receives answer into)) (told : Records old.asked new.asked (posted answer into))
    (cause : CountsFailures old.faults new.faults (IsFailedPost answer)) where
  pub heard_lost : (l m : LineState) (why : AllocError) → IsHeard l m (Err why) old new
  heard_lost l m why = record { post = posted answer into; kept = tt; none = tt; answers = answered answer into old new waiting told cause }

  pub heard_turn : (l : LineState) → [] ≡ piece_of answer (posted answer into).bytes → IsHeard l l (Ok true) old new
  heard_turn l none = record {
    post = posted answer into;
    kept = (ap (λ (t : List Waiting). record l { kept = t }) (sym (nothing_more l.kept) ∙ ap (λ (t : List Waiting). l.kept ++ t) (none ∙ pieces answer into)), λ h. a_turn answer into none, λ h. absurd (cc));
    none = none_at_turn answer into old.waiting new.waiting none waiting;
    answers = answered answer into old new waiting told cause;
  }

  pub heard_piece : (l m : LineState) (piece : Waiting) → piece ∷ [] ≡ piece_of answer (posted answer into).bytes → m ≡ record l { kept = l.kept ++ piece ∷ [] } → IsHeard l m (Ok false) old new
  heard_piece l m piece is keeps = record {
    post = posted answer into;
    kept = (keeps ∙ ap (λ (t : List Waiting). record l { kept = l.kept ++ t }) (is ∙ pieces answer into), λ h. absurd (cc), λ h. no_turn answer into piece is);
    none = tt;
    answers = answered answer into old new waiting told cause;
  }

  -- by what came of keeping it
  pub heard_kept : (l m : LineState) (piece : Waiting) (result : Result Bool AllocError) → piece ∷ [] ≡ piece_of answer (posted answer into).bytes
      → OnOk result (m ≡ record l { kept = l.kept ++ piece ∷ [] }) → IfOk result (λ turned. turned ≡ false) → IsHeard l m result old new
  heard_kept l m piece (Ok turned) is keeps more = subst (λ t. IsHeard l m (Ok t) old new) (sym more) (heard_piece l m piece is keeps)
  heard_kept l m piece (Err why) is keeps more = heard_lost l m why

-- All posts

pub record HasKept (old new : LineState) (before after : PostsTold) : Type 0 where
  pub asked : List Posted
  pub first : All IsNoTurn asked
  pub keeps : new ≡ record old { kept = old.kept ++ brought asked }
  pub answers : Answers asked before after

pub kept_nothing : (l : LineState) (p : PostsTold) → HasKept l l p p
kept_nothing l p = record { asked = []; first = λ k d few. absurd (omega (arith, few)); keeps = ap (λ (t : List Waiting). record l { kept = t }) (sym (nothing_more l.kept)); answers = answered_nothing p }

module _ (old mid new : LineState) (p q r : PostsTold) (h : HasKept old mid p q) where
  keeps_more : (post : Posted) → new ≡ record mid { kept = mid.kept ++ piece_of post.answer post.bytes } → new ≡ record old { kept = old.kept ++ brought (h.asked ++ post ∷ []) }
  keeps_more post is =
      is ∙ ap (λ (l : LineState). record l { kept = l.kept ++ piece_of post.answer post.bytes }) h.keeps
      ∙ ap (λ (t : List Waiting). record old { kept = t })
      (append_assoc old.kept (brought h.asked) (piece_of post.answer post.bytes)
      ∙ ap (λ (t : List Waiting). old.kept ++ t) (ap (λ (t : List Waiting). brought h.asked ++ t) (sym (nothing_more (piece_of post.answer post.bytes))) ∙ sym (flat_more (λ (p : Posted). piece_of p.answer p.bytes) h.asked (post ∷ []))))

  keeps_one : IsHeard mid new (Ok false) q r → HasKept old new p r
  keeps_one heard = record {
    asked = h.asked ++ heard.post ∷ [];
    first = All-push IsNoTurn h.asked heard.post h.first (heard.kept.2 refl);
    keeps = keeps_more heard.post heard.kept.0;
    answers = answered_then h.asked (heard.post ∷ []) p q r h.answers heard.answers;
  }

  gathers : IsHeard mid new (Ok true) q r → IsGathered old new true p r
  gathers heard = record {
    asked = h.asked ++ heard.post ∷ [];
    kept = λ is. record { before = h.asked; first = h.first; turned = ap (λ (t : Posted). h.asked ++ t ∷ []) (heard.kept.1 refl); keeps = keeps_more heard.post heard.kept.0 };
    none = λ is. heard.none;
    answers = answered_then h.asked (heard.post ∷ []) p q r h.answers heard.answers;
  }

  pub kept_more : (result : Result Bool AllocError) (turned : Bool) → result ≡ Ok turned → turned ≡ false → IsHeard mid new result q r → HasKept old new p r
  kept_more result turned is holds heard = keeps_one (subst (λ o. IsHeard mid new o q r) (is ∙ ap (λ (t : Bool). Ok t) holds) heard)

  pub kept_all : (result : Result Bool AllocError) (turned : Bool) → result ≡ Ok turned → turned ≡ true → IsHeard mid new result q r → IsGathered old new true p r
  kept_all result turned is holds heard = gathers (subst (λ o. IsHeard mid new o q r) (is ∙ ap (λ (t : Bool). Ok t) holds) heard)

  pub kept_lost : (result : Result Bool AllocError) → IsHeard mid new result q r → IsGathered old new false p r
  kept_lost result heard = record {
    asked = h.asked ++ heard.post ∷ [];
    kept = λ is. absurd (cc);
    none = λ is. absurd (cc);
    answers = answered_then h.asked (heard.post ∷ []) p q r h.answers heard.answers;
  }

pub kept_on : (old new : LineState) (p q : PostsTold) → HasKept old new p q → IsGathered old new false p q
kept_on old new p q h = record { asked = h.asked; kept = λ is. absurd (cc); none = λ is. absurd (cc); answers = h.answers }
