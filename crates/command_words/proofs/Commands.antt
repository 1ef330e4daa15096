-- The command that the first word names.
use Rattle.std.proofs.Common.{◌≡◌, ◌≢◌, ◌↔◌, Bool, true, false, List, ℕ, Option, Some, None, Decides, codes, bytes_eq, cond, slice_get, map, option_map, String, Global, refl, ap, sym, ◌∙◌}
use Rattle.std.specs.String.{string_bytes}
use Rattle.std.proofs.lemmas.Option.{slice_get-map}
use Rattle.std.proofs.lemmas.Slice.Eq.{bytes_eq-Decides}
use Rattle.clap.specs.Words.{matches_of}
use Rattle.command_words.specs.declared.command.Command.{Command}
use Rattle.command_words.specs.declared.command.Command.TheVariants.{Play, Make, Queue, Qmqpd, Send, Audit, Clean, Lspawn, Rspawn, Local, Work}
use Rattle.command_words.specs.Delivery.{local_words}
use Rattle.command_words.specs.Lines.{audit_line, clean_line, lspawn_line, play_line, queue_line, takes_words}
use Rattle.command_words.specs.Reads.{dir_words, command_named, command_of, make_words, others_named, play_words, qmqpd_words, queue_words, rspawn_words, send_words, told_by, work_words}

-- the command of words whose first one is known
pub named : (ws : List (String Global)) (word : Option (String Global)) → slice_get ws 0 ≡ word → command_of (map string_bytes ws) ≡ command_named (option_map string_bytes word) (map string_bytes ws)
unfolding command_of
named ws word first = ap (λ n. command_named n (map string_bytes ws)) (slice_get-map string_bytes ws 0 ∙ ap (option_map string_bytes) first)

-- the same, if the first word's text is known
pub named_word : (ws : List (String Global)) (word : String Global) (text known : List ℕ) → slice_get ws 0 ≡ Some word → text ≡ string_bytes word → text ≡ known
    → command_of (map string_bytes ws) ≡ command_named (Some known) (map string_bytes ws)
named_word ws word text known first is same = named ws (Some word) first ∙ ap (λ t. command_named (Some t) (map string_bytes ws)) (sym is ∙ same)

differs : (b : Bool) (x y : List ℕ) → Decides b (x ≡ y) → x ≢ y → b ≡ false
differs true x y same other = absurd (other (same.0 refl))
differs false x y same other = refl

-- a choice whose test fails
passed : (b : Bool) (here there : Option Command) → b ≡ false → cond b here there ≡ there
passed b here there fails = ap (λ test. cond test here there) fails

-- a first word that names no command
pub names_none : (ws : List (String Global)) (word : String Global) (text : List ℕ) → slice_get ws 0 ≡ Some word → text ≡ string_bytes word → text ≢ codes "play" → text ≢ codes "queue" → text ≢ codes "send" → text ≢ codes "audit" → text ≢ codes "clean"
    → text ≢ codes "lspawn" → text ≢ codes "rspawn" → text ≢ codes "local" → text ≢ codes "make" → text ≢ codes "work" → text ≢ codes "qmqpd" → command_of (map string_bytes ws) ≡ None
names_none ws word text first is play queue send audit clean lspawn rspawn local make work qmqpd =
    let differ : (name : List ℕ) → text ≢ name → bytes_eq text name ≡ false = λ name other. differs (bytes_eq text name) text name (bytes_eq-Decides text name) other in
    named_word ws word text text first is refl
    ∙ passed _ _ _ (differ (codes "play") play)
    ∙ passed _ _ _ (differ (codes "queue") queue)
    ∙ passed _ _ _ (differ (codes "send") send)
    ∙ passed _ _ _ (differ (codes "audit") audit)
    ∙ passed _ _ _ (differ (codes "clean") clean)
    ∙ passed _ _ _ (differ (codes "lspawn") lspawn)
    ∙ passed _ _ _ (differ (codes "rspawn") rspawn)
    ∙ passed _ _ _ (differ (codes "local") local)
    ∙ passed _ _ _ (differ (codes "make") make)
    ∙ passed _ _ _ (differ (codes "work") work)
    ∙ passed _ _ _ (differ (codes "qmqpd") qmqpd)

-- the words of another command are never `play`
mapped_never : {A : Type 0} (make : A → Command) (told : Option A) → ((x : A) → make x ≢ Play) → option_map make told ≢ Some Play
mapped_never make None other e = cc
mapped_never make (Some x) other e = other x (cc)

never_of : (b : Bool) (here there : Option Command) → here ≢ Some Play → there ≢ Some Play → cond b here there ≢ Some Play
never_of true here there a b e = a e
never_of false here there a b e = b e

queue_never : (words : List (List ℕ)) → queue_words words ≢ Some Play
unfolding queue_words
queue_never words = never_of (takes_words queue_line words) _ None (mapped_never Queue (told_by (matches_of queue_line words)) (λ x e. cc)) (λ e. cc)

others_never : (name : List ℕ) (words : List (List ℕ)) → others_named name words ≢ Some Play
others_never name words =
    never_of (bytes_eq name (codes "queue")) _ _ (queue_never words)
    (never_of (bytes_eq name (codes "send")) _ _ (mapped_never Send (send_words words) (λ x e. cc))
    (never_of (bytes_eq name (codes "audit")) _ _ (mapped_never Audit (dir_words audit_line words) (λ x e. cc))
    (never_of (bytes_eq name (codes "clean")) _ _ (mapped_never Clean (dir_words clean_line words) (λ x e. cc))
    (never_of (bytes_eq name (codes "lspawn")) _ _ (mapped_never Lspawn (dir_words lspawn_line words) (λ x e. cc))
    (never_of (bytes_eq name (codes "rspawn")) _ _ (mapped_never Rspawn (rspawn_words words) (λ x e. cc))
    (never_of (bytes_eq name (codes "local")) _ _ (mapped_never Local (local_words words) (λ x e. cc))
    (never_of (bytes_eq name (codes "make")) _ _ (mapped_never Make (make_words words) (λ x e. cc))
    (never_of (bytes_eq name (codes "work")) _ _ (mapped_never Work (work_words words) (λ x e. cc))
    (never_of (bytes_eq name (codes "qmqpd")) _ None (mapped_never Qmqpd (qmqpd_words words) (λ x e. cc)) (λ e. cc))))))))))

by_tests : (play takes : Bool) (other : Option Command) (name : List ℕ) → Decides play (name ≡ codes "play") → other ≢ Some Play → cond play (cond takes (Some Play) None) other ≡ Some Play
    → (Some name ≡ Some (codes "play")) × (takes ≡ true)
by_tests true true other name is never e = (ap (λ x. Some x) (is.0 refl), refl)
by_tests true false other name is never e = absurd (cc)
by_tests false takes other name is never e = absurd (never e)

by_first : (first : Option (List ℕ)) (words : List (List ℕ)) → command_named first words ≡ Some Play → (first ≡ Some (codes "play")) × (takes_words play_line words ≡ true)
unfolding play_words
by_first None words e = absurd (cc)
by_first (Some name) words e = by_tests (bytes_eq name (codes "play")) (takes_words play_line words) _ name (bytes_eq-Decides name (codes "play")) (others_never name words) e

-- words that are `play` begin with it, and clap takes the others
pub play_begins : (words : List (List ℕ)) → command_of words ≡ Some Play → (slice_get words 0 ≡ Some (codes "play")) × (takes_words play_line words ≡ true)
unfolding command_of
play_begins words e = by_first (slice_get words 0) words e

pub play_follows : (words : List (List ℕ)) → (slice_get words 0 ≡ Some (codes "play")) × (takes_words play_line words ≡ true) → command_of words ≡ Some Play
unfolding command_of play_words
play_follows words h = ap (λ n. command_named n words) h.0 ∙ ap (λ t. cond t (Some Play) None) h.1

-- words of a command that tells no threads aren't those of `work`, nor are words of no command
pub tells_none : (words : List (List ℕ)) (command : Command) (told : Option ℕ) → command_of words ≡ Some command → ((n : ℕ) → (told ≡ Some n) ↔ (command ≡ Work n)) → told ≡ None → (n : ℕ) → command_of words ≡ Some (Work n) → ⊥
tells_none words command told is tells none n work =
    let same : command ≡ Work n = cc in
    let some = (tells n).1 same in absurd (cc)

pub none_tells : (words : List (List ℕ)) → command_of words ≡ None → (n : ℕ) → command_of words ≡ Some (Work n) → ⊥
none_tells words none n work = absurd (cc)
