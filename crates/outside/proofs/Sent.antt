-- What is left of posts one after another.
use Rattle.std.proofs.Common.{◌≡◌, ℕ, ◌+◌, ◌<◌, ◌≤◌, min, List, [], ◌∷◌, ◌++◌, length, get_or, take, drop, map, sym, ap, ◌∙◌, subst, arith}
use Rattle.std.proofs.lemmas.List.{length-map, get_or-map, take-map, drop-map}
use Rattle.outside.specs.declared.posts.Waiting.{Waiting}
use Rattle.outside.specs.Children.{Arrival, arrivals}
use Rattle.outside.specs.Children.Arrival.{Byte}
use Rattle.outside.specs.Forms.{rest_from}
use Rattle.outside.proofs.Pieces.{rest_more, front_of, front_is, length-front}

-- what the post at a place brings
arrivals_at : (posts : List Waiting) (at : ℕ) (w : Waiting) → at < length posts → w ≡ get_or posts at w
    → get_or (map arrivals posts) at [] ≡ arrivals w
arrivals_at posts at w h read = get_or-map arrivals posts at w [] h ∙ ap arrivals (sym read)

-- a post that is one arrival
pub sent_one : (posts : List Waiting) (at given : ℕ) (w : Waiting) (e : Arrival)
    → at < length posts → w ≡ get_or posts at w → arrivals w ≡ e ∷ [] → given < length (get_or (map arrivals posts) at [])
    → rest_from (map arrivals posts) at given ≡ e ∷ rest_from (map arrivals posts) at 1
sent_one posts at given w e h read one low =
    let all : List (List Arrival) = map arrivals posts in
    let is : get_or all at [] ≡ e ∷ [] = arrivals_at posts at w h read ∙ one in
    let size : length (get_or all at []) ≡ 1 = ap length is in
    let within : at < length all = rw length-map h in
    let none : given ≡ 0 = omega arith in
    let on : 0 + 1 ≡ 1 = omega arith in
    ap (rest_from all at) none
    ∙ rest_more all at 0 1 within (omega arith)
    ∙ ap (λ t. take 1 t ++ rest_from all at (0 + 1)) is
    ∙ ap (λ n. e ∷ rest_from all at n) on

-- as many bytes of a post as there is room for were put at the start of `into`
pub sent_bytes : (posts : List Waiting) (at given count room chan : ℕ) (w : Waiting) (bytes into : List ℕ)
    → at < length posts → w ≡ get_or posts at w → arrivals w ≡ map (Byte chan) bytes
    → given ≤ length (get_or (map arrivals posts) at [])
    → count ≡ min (length (front_of bytes given)) room → take count into ≡ take count (front_of bytes given)
    → rest_from (map arrivals posts) at given ≡ map (Byte chan) (take count into) ++ rest_from (map arrivals posts) at (given + count)
sent_bytes posts at given count room chan w bytes into h read are fits size copied =
    let all : List (List Arrival) = map arrivals posts in
    let is : get_or all at [] ≡ map (Byte chan) bytes = arrivals_at posts at w h read ∙ are in
    let long : length (get_or all at []) ≡ length bytes = ap length is ∙ length-map bytes (Byte chan) in
    let most = length-front bytes given in
    let within : at < length all = rw length-map h in
    let sent : take count (drop given (get_or all at [])) ≡ map (Byte chan) (take count into) =
    ap (λ t. take count (drop given t)) is
    ∙ ap (take count) (drop-map (Byte chan) given bytes)
    ∙ take-map (Byte chan) count (drop given bytes)
    ∙ ap (λ t. map (Byte chan) (take count t)) (sym (front_is bytes given))
    ∙ ap (map (Byte chan)) (sym copied) in
    rest_more all at given count within (omega arith) ∙ ap (λ t. t ++ rest_from all at (given + count)) sent

-- The posts that were looked through are those that are held: the place from which the next one comes, and that
-- there is something at it.
pub sent_from : (posts seen : List Waiting) (at given start used : ℕ) (before : List Arrival) → seen ≡ posts
    → rest_from (map arrivals posts) start used ≡ before
    → rest_from (map arrivals seen) at given ≡ rest_from (map arrivals seen) start used
    → before ≡ rest_from (map arrivals posts) at given
sent_from posts seen at given start used before e is same =
    sym is
    ∙ ap (λ t. rest_from (map arrivals t) start used) (sym e)
    ∙ sym same
    ∙ ap (λ t. rest_from (map arrivals t) at given) e

pub more_from : (posts seen : List Waiting) (at given : ℕ) → seen ≡ posts → at < length posts
    → (at < length seen → given < length (get_or (map arrivals seen) at []))
    → given < length (get_or (map arrivals posts) at [])
more_from posts seen at given e h more =
    let there : at < length seen = subst (λ t. at < length t) (sym e) h in
    subst (λ t. given < length (get_or (map arrivals t) at [])) e (more there)
