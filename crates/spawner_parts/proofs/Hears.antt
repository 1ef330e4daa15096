-- What a spawner holds of its requests is what isn't dealt with of the bytes that it took.
use Rattle.std.proofs.Common.{◌≡◌, ℕ, List, [], ◌∷◌, ◌++◌, Bool, refl, sym, ap, ◌∙◌, subst}
use Rattle.std.specs.Prelude.{flat_map}
use Rattle.std.proofs.lemmas.Grind.{flat_map-append}
use Rattle.std.proofs.lemmas.List.{append-nil, append_assoc}
use Rattle.std.proofs.lemmas.List.Elements.{All-push}
use Rattle.spawn_protocol.proofs.Cuts.{cut_is}
use Rattle.spawn_protocol.specs.Cut.{Cut, cut}
use Rattle.spawn_protocol.specs.Cut.Cut.{More, Whole, TooLong}
use Rattle.spawn_protocol.specs.Inbox.{pull, pulled}
use Rattle.spawn_protocol.specs.Request.{IsRequest, IsTooLong, request_text}
use Rattle.spawn_protocol.specs.declared.inbox.Intake.{Intake}
use Rattle.spawn_protocol.specs.declared.inbox.Intake.TheVariants as intake
use Rattle.spawn_protocol.specs.declared.request.Request.{Request}
use Rattle.spawner_parts.specs.Known.{Heard, Hears, HearsIn}

-- the text of requests
abbrev flat : List Request → List ℕ
flat rs = flat_map request_text rs

pub more_heard : (ahead taken bytes : List ℕ) → Heard ahead taken → Heard (ahead ++ bytes) (taken ++ bytes)
more_heard ahead taken bytes h = record {
  requests = h.requests;
  whole = h.whole;
  text = ap (λ t. t ++ bytes) h.text ∙ append_assoc (flat h.requests) ahead bytes;
}

one_heard : (ahead taken rest : List ℕ) (r : Request) → Heard ahead taken → IsRequest r × (ahead ≡ request_text r ++ rest) → Heard rest taken
one_heard ahead taken rest r h so = record {
  requests = h.requests ++ r ∷ [];
  whole = All-push IsRequest h.requests r h.whole so.0;
  text = h.text ∙ ap (λ a. flat h.requests ++ a) so.1
      ∙ ap (λ t. flat h.requests ++ (t ++ rest)) (sym (append-nil (request_text r)))
      ∙ sym (append_assoc (flat h.requests) (request_text r ++ []) rest)
      ∙ ap (λ t. t ++ rest) (sym (flat_map-append request_text h.requests (r ∷ [])));
}

long_heard : (ahead taken : List ℕ) (h : Heard ahead taken) → IsTooLong ahead [] → IsTooLong taken h.requests
long_heard ahead taken h long = record {
  before = flat h.requests ++ long.before;
  start = long.start;
  byte = long.byte;
  rest = long.rest;
  split = h.text ∙ ap (λ a. flat h.requests ++ a) long.split ∙ sym (append_assoc (flat h.requests) long.before (long.byte ∷ long.rest));
  text = record { text = ap (λ b. flat h.requests ++ b) long.text.text; whole = h.whole; begun = long.text.begun };
  full = long.full;
  plain = long.plain;
}

by_cut : (ahead taken : List ℕ) (ended : Bool) (c : Cut) → cut ahead ≡ c → Heard ahead taken
    → HearsIn (pulled c (record { ahead = ahead; intake = intake.Open })).inbox taken ended
by_cut ahead taken ended More is h = h
by_cut ahead taken ended (Whole r rest) is h = one_heard ahead taken rest r h ((cut_is ahead (Whole r rest)).0 is)
by_cut ahead taken ended TooLong is h = (refl, (h.requests, long_heard ahead taken h ((cut_is ahead TooLong).0 is)))

-- the next request is pulled out
pub pull_hears : (state : Intake) (ahead taken : List ℕ) (ended : Bool) → Hears state ahead taken ended
    → HearsIn (pull (record { ahead = ahead; intake = state })).inbox taken ended
pull_hears intake.Open ahead taken ended h = by_cut ahead taken ended (cut ahead) refl h
pull_hears intake.Ended ahead taken ended h =
    subst (λ a. HearsIn (pull (record { ahead = a; intake = intake.Ended })).inbox taken ended) (sym h.0) (refl, h.1)
pull_hears intake.TooLong ahead taken ended h =
    subst (λ a. HearsIn (pull (record { ahead = a; intake = intake.TooLong })).inbox taken ended) (sym h.0) (refl, h.1)
