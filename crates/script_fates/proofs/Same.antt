-- Controls are the same where each of their parts is, and lines of virtualdomains, and lists.
use Rattle.std.proofs.Common.{◌≡◌, ◌<◌, ◌≤◌, ◌+◌, ℕ, List, true, false, ap, ◌∙◌, arith, get_or, length, refl, subst, sym, take}
use Rattle.std.proofs.lemmas.List.{get_or_read, take_all, take_more_same}
use Rattle.address_rules.specs.declared.controls.Controls.{Controls}
use Rattle.address_rules.specs.declared.virtual_domains.VirtualDomain.{VirtualDomain}

-- each part
abbrev pub ArePartsSame : Controls → Controls → Type 0
ArePartsSame a b =
    (((((((((((a.me ≡ b.me) × (a.locals ≡ b.locals)) × (a.percent_hack ≡ b.percent_hack)) × (a.virtual_domains ≡ b.virtual_domains)) × (a.env_no_at_host ≡ b.env_no_at_host)) × (a.bounce_from ≡ b.bounce_from)) × (a.bounce_host ≡ b.bounce_host))
    × (a.double_bounce_to ≡ b.double_bounce_to)) × (a.double_bounce_host ≡ b.double_bounce_host)) × (a.concurrency_local ≡ b.concurrency_local)) × (a.concurrency_remote ≡ b.concurrency_remote)) × (a.queue_lifetime ≡ b.queue_lifetime)

unfoldable made : List ℕ → List (List ℕ) → List (List ℕ) → List VirtualDomain → List ℕ → List ℕ → List ℕ → List ℕ → List ℕ → ℕ → ℕ → ℕ → Controls
made me locals hack lines env from host to double local remote life = record {
  me = me;
  locals = locals;
  percent_hack = hack;
  virtual_domains = lines;
  env_no_at_host = env;
  bounce_from = from;
  bounce_host = host;
  double_bounce_to = to;
  double_bounce_host = double;
  concurrency_local = local;
  concurrency_remote = remote;
  queue_lifetime = life;
}

-- of these parts
abbrev remade : Controls → Controls
remade c = made c.me c.locals c.percent_hack c.virtual_domains c.env_no_at_host c.bounce_from c.bounce_host c.double_bounce_to c.double_bounce_host c.concurrency_local c.concurrency_remote c.queue_lifetime

same_made : (a b : Controls) → ArePartsSame a b → remade a ≡ remade b
same_made a b h =
    let texts = h.0.0.0 in
    let names = texts.0.0.0.0.0 in
    let me = names.0.0.0 in
    let locals = names.0.0.1 in
    let hack = names.0.1 in
    let lines = names.1 in
    let env = texts.0.0.0.0.1 in
    let from = texts.0.0.0.1 in
    let host = texts.0.0.1 in
    let to = texts.0.1 in
    let double = texts.1 in
    let local = h.0.0.1 in
    let remote = h.0.1 in
    let life = h.1 in
    cc

pub same_parts : (a b : Controls) → ArePartsSame a b → a ≡ b
unfolding made
same_parts a b h = same_made a b h

pub parts_same : (a b : Controls) → a ≡ b → ArePartsSame a b
parts_same a b e = subst (ArePartsSame a) e (((((((((((refl, refl), refl), refl), refl), refl), refl), refl), refl), refl), refl), refl)

pub same_line : (a b : VirtualDomain) → (a.domain ≡ b.domain) × (a.prefix ≡ b.prefix) → a ≡ b
same_line a b h = ap (λ (d : List ℕ). let l : VirtualDomain = record a { domain = d } in l) h.0 ∙ ap (λ (p : List ℕ). let l : VirtualDomain = record b { prefix = p } in l) h.1

pub line_same : (a b : VirtualDomain) → a ≡ b → (a.domain ≡ b.domain) × (a.prefix ≡ b.prefix)
line_same a b e = (ap (λ (l : VirtualDomain). l.domain) e, ap (λ (l : VirtualDomain). l.prefix) e)

-- Lists, one item after the other

pub same_more : {X : Type 0} → (xs ys : List X) (i : ℕ) (x y : X) → i < length xs → length xs ≡ length ys → take i xs ≡ take i ys → x ≡ get_or xs i x → y ≡ get_or ys i y → x ≡ y → take (i + 1) xs ≡ take (i + 1) ys
same_more xs ys i x y lt long same one other e = take_more_same xs ys i x lt (omega (arith, lt, long)) same (sym one ∙ e ∙ get_or_read ys i y (omega (arith, lt, long)) other x)

pub same_all : {X : Type 0} → (xs ys : List X) (n : ℕ) → length xs ≤ n → length xs ≡ length ys → take n xs ≡ take n ys → xs ≡ ys
same_all xs ys n done long same = sym (take_all n xs done) ∙ same ∙ take_all n ys (omega (arith, done, long))

pub same_item : {X : Type 0} → (xs ys : List X) (i : ℕ) (x y : X) → i < length ys → x ≡ get_or xs i x → y ≡ get_or ys i y → xs ≡ ys → x ≡ y
same_item {X = X} xs ys i x y lt one other e = one ∙ ap (λ (l : List X). get_or l i x) e ∙ sym (get_or_read ys i y lt other x)

-- neither holds
pub never : {P : Type 0} → (P → ⊥) → (false ≡ true → P) × (P → false ≡ true)
never none = (λ t. absurd (let e : false ≡ true = t in cc), λ p. absurd (none p))
