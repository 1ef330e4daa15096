-- Who searches is the sender.
use Rattle.std.proofs.Common.{◌≡◌, ◌≢◌, ℕ, List, Bool, true, false, refl, sym, ◌∙◌, codes}
use Rattle.std.proofs.lemmas.Bool.{false≢true}
use Rattle.std.proofs.lemmas.Slice.Eq.{bytes_eq-Decides}
use Rattle.world_events.specs.Searches.{searches}

pub sender_searches : searches (codes "sender") ≡ true
sender_searches = (bytes_eq-Decides (codes "sender") (codes "sender")).1 refl

pub is_sender : (a : List ℕ) → searches a ≡ true → a ≡ codes "sender"
is_sender a search = (bytes_eq-Decides a (codes "sender")).0 search

pub is_no_sender : (a : List ℕ) → searches a ≡ false → a ≢ codes "sender"
is_no_sender a none same = false≢true (sym none ∙ (bytes_eq-Decides a (codes "sender")).1 same)

pub searches_not : (a : List ℕ) → a ≢ codes "sender" → searches a ≡ false
searches_not a far = by (searches a) refl where
  by : (b : Bool) → searches a ≡ b → searches a ≡ false
  by true search = absurd (far (is_sender a search))
  by false none = none
