-- The lives of messages, after a link of an injector, and after a report.
use Rattle.std.proofs.Common.{◌≡◌, ◌≢◌, ⊎_elim, ℕ, List, [], ◌∷◌, ◌++◌, map, reverse, Bool, true, false, Option, Some, None, refl, sym, ap, ◌∙◌, subst, arith}
use Rattle.std.specs.Prelude.{◌&&◌, ◌||◌, ◌==◌, bytes_eq, if◌then◌else◌}
use Rattle.std.specs.List.{AllZip, filter, list_any, slice_get}
use Rattle.std.specs.Option.{option_map, option_to_list}
use Rattle.std.specs.Ordering.{nat_cmp}
use Rattle.std.specs.BTreeMap.{UpdatesBy, get, is_at}
use Rattle.std.specs.Map.{lookup}
use Rattle.std.proofs.lemmas.Bool.{eqb-true}
use Rattle.std.proofs.lemmas.Bool.Decides.{nat_tests}
use Rattle.std.proofs.lemmas.List.{reverse-append}
use Rattle.address_rules.specs.declared.controls.Controls.{Controls}
use Rattle.call_fs.specs.declared.calls.Answer.{Answer}
use Rattle.call_fs.specs.declared.calls.Answer.TheVariants as answer
use Rattle.call_fs.specs.declared.calls.CallData.{CallData}
use Rattle.call_fs.specs.declared.calls.CallData.TheVariants as call
use Rattle.call_fs.specs.declared.past.GotData.{GotData}
use Rattle.call_fs.specs.declared.past.GotData.TheVariants as got
use Rattle.call_fs.specs.declared.past.NeedData.{NeedData}
use Rattle.call_fs.specs.declared.past.NeedData.TheVariants as needs
use Rattle.call_fs.specs.declared.past.Own.{Own}
use Rattle.call_fs.specs.Maps.{put}
use Rattle.call_fs.proofs.Maps.{put_cases}
use Rattle.queue_inject.specs.declared.injection.Arguments.{Arguments}
use Rattle.queue_law.specs.Books.{Books, Injection, accept, begun, booked, entered_in, linked, with_line}
use Rattle.queue_law.specs.Ledgers.{Ledger, Line, Spot, line_in, unrouted}
use Rattle.queue_law.specs.Ledgers.Line.{Delivers, Routes}
use Rattle.queue_paths.specs.Names.{Name, is_number, is_used, parse, path, used, used_name}
use Rattle.queue_paths.specs.Names.Name.{Of}
use Rattle.queue_paths.specs.Names.Part.{Mess, Intd, Todo, SplitIntd, SplitTodo}
use Rattle.world_events.specs.Books.{mess_number, number_by}
use Rattle.script_fates.specs.declared.fates.Fates.{Fates}
use Rattle.script_fates.specs.declared.fates.Spot.{Spot as KeptSpot}
use Rattle.script_fates.specs.declared.fates.Tenure.{Tenure}
use Rattle.script_fates.specs.declared.routers.Routers.{Routers}
use Rattle.script_fates.specs.Entering.{booked_after}
use Rattle.script_fates.specs.Fates.{AreFates, IsTenure, IsTenureIf, no_books, spot_of}
use Rattle.script_fates.specs.Routers.{AreMore, routes_at}
use Rattle.script_fates.specs.Lasting.{is_delivered, is_delivered_by, is_entered, is_entered_so, is_spot}

-- what is kept of each number, and the books' injection of it
abbrev pub AreLives : Routers → (ℕ → Option Tenure) → (ℕ → Option Injection) → Type 0
AreLives r kept living = (n : ℕ) → is_number n ≡ true → IsTenureIf r (kept n) (living n)

abbrev pub ArePlaced : (ℕ → Option Injection) → Type 0
ArePlaced living = (n : ℕ) (q : Injection) → living n ≡ Some q → q.number ≡ n

abbrev pub numbered : List Injection → List Injection
numbered qs = filter (λ q. is_number q.number) qs

some_is : {A : Type 0} (x y : A) → ◌≡◌ {A = Option A} (Some x) (Some y) → x ≡ y
some_is x y e = cc

placed_put : (living : ℕ → Option Injection) (n : ℕ) (o : Option Injection) → ((q : Injection) → o ≡ Some q → q.number ≡ n) → ArePlaced living → ArePlaced (put living n o)
placed_put living n o here placed k q is = ⊎_elim
    (λ h. here q (sym h.1 ∙ is) ∙ sym h.0)
    (λ h. placed k q (sym h.1 ∙ is))
    (put_cases living n o k)

-- another injection of a number that is none
lives_apart : (r : Routers) (kept : ℕ → Option Tenure) (living : ℕ → Option Injection) (n : ℕ) (o : Option Injection) → is_number n ≡ false → AreLives r kept living → AreLives r kept (put living n o)
lives_apart r kept living n o none lives k is = ⊎_elim
    (λ h. absurd (let e : true ≡ false = sym is ∙ ap is_number h.0 ∙ none in cc))
    (λ h. subst (IsTenureIf r (kept k)) (sym h.1) (lives k is))
    (put_cases living n o k)

-- or of one that is kept
lives_put : (r : Routers) (kept : ℕ → Option Tenure) (living : ℕ → Option Injection) (n : ℕ) (o : Option Injection) → (is_number n ≡ true → IsTenureIf r (kept n) o) → AreLives r kept living → AreLives r kept (put living n o)
lives_put r kept living n o here lives k is = ⊎_elim
    (λ h. subst (IsTenureIf r (kept k)) (sym h.1) (subst (λ (k : ℕ). IsTenureIf r (kept k) o) (sym h.0) (here (ap is_number (sym h.0) ∙ is))))
    (λ h. subst (IsTenureIf r (kept k)) (sym h.1) (lives k is))
    (put_cases living n o k)

-- Before any event

pub no_lives : (f : Fates) → f.living.entries ≡ [] → f.over.items ≡ [] → f.routers.unrouted ≡ unrouted → AreFates f no_books
no_lives f none over unrouted = record {
  living = λ n is.
      let missing : get nat_cmp f.living n ≡ None = ap (λ (es : List (ℕ × Tenure)). lookup (is_at (nat_cmp n)) es) none in
      subst (λ (t : Option Tenure). IsTenureIf f.routers t None) (sym missing) tt;
  over = subst (λ (l : List Tenure). AllZip (IsTenure f.routers) (reverse l) []) (sym over) tt;
  none = unrouted;
  placed = λ n q is. let missing : ◌≡◌ {A = Option Injection} None (Some q) = is in absurd (cc);
}

-- An acceptance

accepted_if : (r : Routers) (t : Option Tenure) (b : Bool) (q : Injection) → IsTenureIf r t (Some q) → IsTenureIf r t (if b then Some (record q { accepted = true }) else Some q)
accepted_if r None true q h = h
accepted_if r None false q h = h
accepted_if r (Some t) true q h = record { number = h.number; mail = h.mail; delivered = h.delivered; routes = h.routes }
accepted_if r (Some t) false q h = h

accepted_lives : (r : Routers) (a : List ℕ) (t : Option Tenure) (o : Option Injection) → IsTenureIf r t o → IsTenureIf r t (accept a o)
accepted_lives r a None None h = h
accepted_lives r a (Some t) None h = h
accepted_lives r a t (Some q) h = accepted_if r t (bytes_eq q.actor a) q h

accepted_number : (b : Bool) (p q : Injection) → (if b then Some (record p { accepted = true }) else Some p) ≡ Some q → q.number ≡ p.number
accepted_number true p q is = ap (λ (q : Injection). q.number) (sym (some_is (record p { accepted = true }) q is))
accepted_number false p q is = ap (λ (q : Injection). q.number) (sym (some_is p q is))

accepted_placed : (a : List ℕ) (n : ℕ) (o : Option Injection) → ((q : Injection) → o ≡ Some q → q.number ≡ n) → (q : Injection) → accept a o ≡ Some q → q.number ≡ n
accepted_placed a n None here q is = absurd (cc)
accepted_placed a n (Some p) here q is = accepted_number (bytes_eq p.actor a) p q is ∙ here p refl

to_todo : (f : Fates) (b : Books) (a : List ℕ) (n : ℕ) (t : Bool) → AreFates f b → AreFates f (if t then record { living = put b.living n (accept a (b.living n)); over = b.over } else b)
to_todo f b a n false h = h
to_todo f b a n true h = record {
  living = lives_put f.routers (get nat_cmp f.living) b.living n (accept a (b.living n)) (λ is. accepted_lives f.routers a (get nat_cmp f.living n) (b.living n) (h.living n is)) h.living;
  over = h.over;
  none = h.none;
  placed = placed_put b.living n (accept a (b.living n)) (accepted_placed a n (b.living n) (h.placed n)) h.placed;
}

-- A link that tells no number

not_kept : (n : ℕ) (o : Option Injection) (over : List Injection) → is_number n ≡ false → ((q : Injection) → o ≡ Some q → q.number ≡ n) → numbered (option_to_list o ++ over) ≡ numbered over
not_kept n None over none here = refl
not_kept n (Some q) over none here = ap (λ (t : Bool). if t then q ∷ numbered over else numbered over) (ap is_number (here q refl) ∙ none)

used_none : (n : ℕ) (b : Bool) → is_number n ≡ b → mess_number (if b then Some (Of Mess n) else None) ≡ None → is_number n ≡ false
used_none n false is none = is
used_none n true is none = absurd (cc)

unnumbered : (f : Fates) (b : Books) (a : List ℕ) (args : Arguments) (old : List ℕ) (name : Option Name) → mess_number (used name) ≡ None → AreFates f b → AreFates f (linked b a args old name)
unnumbered f b a args old (Some (Of Mess n)) none h =
    let far = used_none n (is_number n) refl none in record {
      living = lives_apart f.routers (get nat_cmp f.living) b.living n (Some (begun a args n)) far h.living;
      over = subst (AllZip (IsTenure f.routers) (reverse f.over.items)) (sym (not_kept n (b.living n) b.over far (h.placed n))) h.over;
      none = h.none;
      placed = placed_put b.living n (Some (begun a args n)) (λ q is. ap (λ (q : Injection). q.number) (sym (some_is (begun a args n) q is))) h.placed;
    }
unnumbered f b a args old (Some (Of Todo n)) none h = to_todo f b a n (bytes_eq old (path (Of Intd n))) h
unnumbered f b a args old (Some (Of SplitTodo n)) none h = to_todo f b a n (bytes_eq old (path (Of SplitIntd n))) h
unnumbered f b a args old name none h = h

-- A link of a message's name

-- the lives are those of before, with a new one of this number
pub record Begins (old new : Fates) (a : List ℕ) (n : ℕ) : Type 0 where
  pub tenure : Tenure
  pub is : get nat_cmp new.living n ≡ Some tenure
  pub number : tenure.number ≡ n
  pub mail : tenure.mail ≡ a
  pub none : tenure.delivered.items ≡ []
  pub routes : tenure.routes ≡ None
  pub others : (k : ℕ) → k ≢ n → get nat_cmp new.living k ≡ get nat_cmp old.living k
  pub over : new.over.items ≡ old.over.items ++ option_to_list (get nat_cmp old.living n)
  pub routers : new.routers ≡ old.routers

over_more : (r : Routers) (items : List Tenure) (over : List Injection) (n : ℕ) (t : Option Tenure) (o : Option Injection) → is_number n ≡ true → IsTenureIf r t o → ((q : Injection) → o ≡ Some q → q.number ≡ n)
    → AllZip (IsTenure r) (reverse items) (numbered over) → AllZip (IsTenure r) (reverse (items ++ option_to_list t)) (numbered (option_to_list o ++ over))
over_more r items over n None None is h here all = subst (λ (l : List Tenure). AllZip (IsTenure r) l (numbered over)) (sym (reverse-append items [])) all
over_more r items over n None (Some q) is h here all = absurd h
over_more r items over n (Some t) None is h here all = absurd h
over_more r items over n (Some t) (Some q) is h here all =
    let kept : numbered (q ∷ over) ≡ q ∷ numbered over = ap (λ (t : Bool). if t then q ∷ numbered over else numbered over) (ap is_number (here q refl) ∙ is) in
    subst (AllZip (IsTenure r) (reverse (items ++ t ∷ []))) (sym kept)
    (subst (λ (l : List Tenure). AllZip (IsTenure r) l (q ∷ numbered over)) (sym (reverse-append items (t ∷ []))) (h, all))

-- with the control files of before
new_life : (old new : Fates) (b : Books) (a : List ℕ) (args : Arguments) (n : ℕ) → is_number n ≡ true → Begins old new a n → AreFates old b
    → AreFates (record new { routers = old.routers }) (record { living = put b.living n (Some (begun a args n)); over = option_to_list (b.living n) ++ b.over })
new_life old new b a args n is begins h = record {
  living = λ k k_is. ⊎_elim
      (λ e.
      let here : IsTenureIf r (Some begins.tenure) (Some (begun a args n)) = record {
        number = begins.number;
        mail = begins.mail;
        delivered = ap (λ (l : List KeptSpot). map spot_of (reverse l)) begins.none;
        routes = ap (routes_at r) begins.routes ∙ ap (λ (c : Controls). Some c) h.none;
      } in
      let kept : get nat_cmp new.living k ≡ Some begins.tenure = ap (get nat_cmp new.living) e.0 ∙ begins.is in
      subst (IsTenureIf r (get nat_cmp new.living k)) (sym e.1) (subst (λ (t : Option Tenure). IsTenureIf r t (Some (begun a args n))) (sym kept) here))
      (λ e. subst (IsTenureIf r (get nat_cmp new.living k)) (sym e.1) (subst (λ (t : Option Tenure). IsTenureIf r t (b.living k)) (sym (begins.others k e.0)) (h.living k k_is)))
      (put_cases b.living n (Some (begun a args n)) k);
  over = subst (λ (l : List Tenure). AllZip (IsTenure r) (reverse l) (numbered (option_to_list (b.living n) ++ b.over))) (sym begins.over)
      (over_more r old.over.items b.over n (get nat_cmp old.living n) (b.living n) is (h.living n is) (h.placed n) h.over);
  none = h.none;
  placed = placed_put b.living n (Some (begun a args n)) (λ q is. ap (λ (q : Injection). q.number) (sym (some_is (begun a args n) q is))) h.placed;
}
  where
    r : Routers
    r = old.routers

-- which are its own
same_routers : (f : Fates) (r : Routers) → f.routers ≡ r → record f { routers = r } ≡ f
same_routers f r is = ap (λ (r : Routers). let g : Fates = record f { routers = r } in g) (sym is)

used_mess : (n m : ℕ) (b : Bool) → is_number m ≡ b → mess_number (if b then Some (Of Mess m) else None) ≡ Some n → (m ≡ n) × (is_number m ≡ true)
used_mess n m true is told = (some_is m n told, is)
used_mess n m false is told = absurd (cc)

not_mess : (n : ℕ) (b : Bool) (name : Name) → mess_number (Some name) ≡ None → mess_number (if b then Some name else None) ≡ Some n → ⊥
not_mess n true name other told = let e : ◌≡◌ {A = Option ℕ} None (Some n) = sym other ∙ told in cc
not_mess n false name other told = cc

name_is : (name : Option Name) (n : ℕ) → mess_number (used name) ≡ Some n → (name ≡ Some (Of Mess n)) × (is_number n ≡ true)
name_is None n told = absurd (cc)
name_is (Some (Of Mess m)) n told =
    let it = used_mess n m (is_number m) refl told in
    (ap (λ (k : ℕ). Some (Of Mess k)) it.0, ap is_number (sym it.0) ∙ it.1)
name_is (Some name) n told = absurd (not_mess n (is_used name) name refl told)

numbers : (old new : Fates) (b : Books) (a : List ℕ) (args : Arguments) (first : List ℕ) (name : Option Name) (n : ℕ) → mess_number (used name) ≡ Some n → Begins old new a n → AreFates old b
    → AreFates new (linked b a args first name)
numbers old new b a args first name n told begins h =
    let it = name_is name n told in
    subst (λ (name : Option Name). AreFates new (linked b a args first name)) (sym it.0)
    (subst (λ (f : Fates). AreFates f (record { living = put b.living n (Some (begun a args n)); over = option_to_list (b.living n) ++ b.over })) (same_routers new old.routers begins.routers) (new_life old new b a args n it.1 begins h))

-- An event of an injector

module _ (P : Books → Type 0) (b : Books) (a : List ℕ) (args : Arguments) where
  by_call : (c : CallData) (reply : Answer) → (number_by (needs.File c) (got.Answered (record { answer = reply; bytes = [] })) ≡ None → P b)
      → ((old new : List ℕ) → number_by (needs.File c) (got.Answered (record { answer = reply; bytes = [] })) ≡ mess_number (used_name new) → P (linked b a args old (parse new))) → P (booked b a args c reply)
  by_call (call.Link old new) answer.Done none some = some old new refl
  by_call c reply none some = none refl

  by_came : (c : CallData) (came : GotData) → (number_by (needs.File c) came ≡ None → P b)
      → ((old new : List ℕ) → number_by (needs.File c) came ≡ mess_number (used_name new) → P (linked b a args old (parse new))) → P (booked_after b a args (needs.File c) came)
  by_came c (got.Answered told) none some = by_call c told.answer none some
  by_came c came none some = none refl

  by_due : (due : NeedData) (came : GotData) → (number_by due came ≡ None → P b)
      → ((old new : List ℕ) → number_by due came ≡ mess_number (used_name new) → P (linked b a args old (parse new))) → P (booked_after b a args due came)
  by_due (needs.File c) came none some = by_came c came none some
  by_due due came none some = none refl

pub unlinked : (f : Fates) (b : Books) (a : List ℕ) (args : Arguments) (own : Own) → number_by own.due own.came ≡ None → AreFates f b
    → AreFates f (booked_after b a args own.due own.came)
unlinked f b a args own none h =
    by_due (AreFates f) b a args own.due own.came (λ e. h) (λ old new e. unnumbered f b a args old (parse new) (sym e ∙ none) h)

pub linked_one : (old new : Fates) (b : Books) (a : List ℕ) (args : Arguments) (own : Own) (n : ℕ) → number_by own.due own.came ≡ Some n → Begins old new a n → AreFates old b
    → AreFates new (booked_after b a args own.due own.came)
linked_one old new b a args own n some begins h =
    by_due (AreFates new) b a args own.due own.came
    (λ e. absurd (let both : ◌≡◌ {A = Option ℕ} None (Some n) = sym e ∙ some in cc))
    (λ first name e. numbers old new b a args first (parse name) n (sym e ∙ some) begins h)

-- A recipient is reported delivered

-- the life of this number changes so, if there is one
abbrev pub ChangesIf : (Tenure → Tenure → Type 0) → Option Tenure → Option Tenure → Type 0
ChangesIf So None new = new ≡ None
ChangesIf So (Some old) None = ⊥
ChangesIf So (Some old) (Some new) = So old new

pub record Changes (So : Tenure → Tenure → Type 0) (old new : Fates) (n : ℕ) : Type 0 where
  pub here : ChangesIf So (get nat_cmp old.living n) (get nat_cmp new.living n)
  pub others : (k : ℕ) → k ≢ n → get nat_cmp new.living k ≡ get nat_cmp old.living k
  pub over : new.over.items ≡ old.over.items
  pub routers : new.routers ≡ old.routers

-- so it does as this line is entered
abbrev pub IsEnteredSo : Routers → (Tenure → Tenure → Type 0) → Line → Type 0
IsEnteredSo r So line = (t u : Tenure) (q : Injection) → So t u → IsTenure r t q → IsTenure r u (with_line line q)

changed_lives : (r : Routers) (So : Tenure → Tenure → Type 0) (line : Line) → IsEnteredSo r So line → (t u : Option Tenure) (o : Option Injection) → ChangesIf So t u → IsTenureIf r t o → IsTenureIf r u (option_map (with_line line) o)
changed_lives r So line one None u None e h = subst (λ (u : Option Tenure). IsTenureIf r u None) (sym e) h
changed_lives r So line one None u (Some q) e h = absurd h
changed_lives r So line one (Some t) None o e h = absurd e
changed_lives r So line one (Some t) (Some u) None e h = absurd h
changed_lives r So line one (Some t) (Some u) (Some q) e h = one t u q e h

lined_number : (line : Line) (n : ℕ) (o : Option Injection) → ((q : Injection) → o ≡ Some q → q.number ≡ n) → (q : Injection) → option_map (with_line line) o ≡ Some q → q.number ≡ n
lined_number line n None here q is = absurd (cc)
lined_number line n (Some p) here q is = ap (λ (q : Injection). q.number) (sym (some_is (with_line line p) q is)) ∙ here p refl

changes_one : (So : Tenure → Tenure → Type 0) (line : Line) (old new : Fates) (b : Books) (n : ℕ) → IsEnteredSo old.routers So line → Changes So old new n → AreFates old b → AreFates new (entered_in b n line)
changes_one So line old new b n one changes h = subst (λ (f : Fates). AreFates f (entered_in b n line)) (same_routers new r changes.routers) (record {
  living = λ k is. ⊎_elim
      (λ e. subst (IsTenureIf r (get nat_cmp new.living k)) (sym e.1)
      (subst (λ (k : ℕ). IsTenureIf r (get nat_cmp new.living k) (option_map (with_line line) (b.living n))) (sym e.0)
      (changed_lives r So line one (get nat_cmp old.living n) (get nat_cmp new.living n) (b.living n) changes.here (h.living n (ap is_number (sym e.0) ∙ is)))))
      (λ e. subst (IsTenureIf r (get nat_cmp new.living k)) (sym e.1) (subst (λ (t : Option Tenure). IsTenureIf r t (b.living k)) (sym (changes.others k e.0)) (h.living k is)))
      (put_cases b.living n (option_map (with_line line) (b.living n)) k);
  over = subst (λ (l : List Tenure). AllZip (IsTenure r) (reverse l) (numbered b.over)) (sym changes.over) h.over;
  none = h.none;
  placed = placed_put b.living n (option_map (with_line line) (b.living n)) (lined_number line n (b.living n) (h.placed n)) h.placed;
})
  where
    r : Routers
    r = old.routers

-- this one is entered
abbrev pub AddsSpot : KeptSpot → Tenure → Tenure → Type 0
AddsSpot s old new = (new.number ≡ old.number) × (new.mail ≡ old.mail) × (new.delivered.items ≡ old.delivered.items ++ s ∷ []) × (new.routes ≡ old.routes)

spot_added : (r : Routers) (s : KeptSpot) → IsEnteredSo r (AddsSpot s) (Delivers (spot_of s))
spot_added r s t u q e h = record {
  number = e.0 ∙ h.number;
  mail = e.1 ∙ h.mail;
  delivered = ap (λ (l : List KeptSpot). map spot_of (reverse l)) e.2 ∙ ap (map spot_of) (reverse-append t.delivered.items (s ∷ [])) ∙ ap (λ (l : List Spot). spot_of s ∷ l) h.delivered;
  routes = ap (routes_at r) e.3 ∙ h.routes;
}

pub enters_one : (old new : Fates) (b : Books) (n : ℕ) (s : KeptSpot) → Changes (AddsSpot s) old new n → AreFates old b → AreFates new (entered_in b n (Delivers (spot_of s)))
enters_one old new b n s enters h = changes_one (AddsSpot s) (Delivers (spot_of s)) old new b n (spot_added old.routers s) enters h

-- it is routed by those at this place
abbrev pub TakesRoutes : ℕ → Tenure → Tenure → Type 0
TakesRoutes place old new = (new.number ≡ old.number) × (new.mail ≡ old.mail) × (new.delivered.items ≡ old.delivered.items) × (new.routes ≡ Some place)

routes_taken : (r : Routers) (place : ℕ) (by : Controls) → slice_get r.read.items place ≡ Some by → IsEnteredSo r (TakesRoutes place) (Routes by)
routes_taken r place by there t u q e h = record {
  number = e.0 ∙ h.number;
  mail = e.1 ∙ h.mail;
  delivered = ap (λ (l : List KeptSpot). map spot_of (reverse l)) e.2 ∙ h.delivered;
  routes = ap (routes_at r) e.3 ∙ there;
}

pub routes_one : (old new : Fates) (b : Books) (n place : ℕ) (by : Controls) → slice_get old.routers.read.items place ≡ Some by → Changes (TakesRoutes place) old new n → AreFates old b → AreFates new (entered_in b n (Routes by))
routes_one old new b n place by there changes h = changes_one (TakesRoutes place) (Routes by) old new b n (routes_taken old.routers place by there) changes h

-- more control files are kept
more_at : (r s : Routers) (o : Option ℕ) (by : Controls) → AreMore r s → routes_at r o ≡ Some by → routes_at s o ≡ Some by
more_at r s None by more is = ap (λ (c : Controls). Some c) more.unrouted ∙ is
more_at r s (Some place) by more is = more.read place by is

more_one : (r s : Routers) (t : Tenure) (q : Injection) → AreMore r s → IsTenure r t q → IsTenure s t q
more_one r s t q more h = record { number = h.number; mail = h.mail; delivered = h.delivered; routes = more_at r s t.routes q.ledger.routes more h.routes }

more_if : (r s : Routers) (t : Option Tenure) (o : Option Injection) → AreMore r s → IsTenureIf r t o → IsTenureIf s t o
more_if r s None None more h = h
more_if r s None (Some q) more h = absurd h
more_if r s (Some t) None more h = absurd h
more_if r s (Some t) (Some q) more h = more_one r s t q more h

more_all : (r s : Routers) (ts : List Tenure) (qs : List Injection) → AreMore r s → AllZip (IsTenure r) ts qs → AllZip (IsTenure s) ts qs
more_all r s [] [] more all = all
more_all r s [] (q ∷ qs) more all = absurd all
more_all r s (t ∷ ts) [] more all = absurd all
more_all r s (t ∷ ts) (q ∷ qs) more all = (more_one r s t q more all.0, more_all r s ts qs more all.1)

pub more_kept : (f : Fates) (b : Books) (r : Routers) → AreMore f.routers r → AreFates f b → AreFates (record f { routers = r }) b
more_kept f b r more h = record {
  living = λ n is. more_if f.routers r (get nat_cmp f.living n) (b.living n) more (h.living n is);
  over = more_all f.routers r (reverse f.over.items) (numbered b.over) more h.over;
  none = more.unrouted ∙ h.none;
  placed = h.placed;
}

-- a line that tells of no delivery and of no routes
abbrev pub IsApart : Line → Type 0
IsApart line = (l : Ledger) → ((line_in line l).delivered ≡ l.delivered) × ((line_in line l).routes ≡ l.routes)

lined : (r : Routers) (line : Line) → IsApart line → (t : Option Tenure) (o : Option Injection) → IsTenureIf r t o → IsTenureIf r t (option_map (with_line line) o)
lined r line same None None h = h
lined r line same None (Some q) h = absurd h
lined r line same (Some t) None h = absurd h
lined r line same (Some t) (Some q) h = record { number = h.number; mail = h.mail; delivered = h.delivered ∙ sym (same q.ledger).0; routes = h.routes ∙ ap (λ (c : Controls). Some c) (sym (same q.ledger).1) }

pub line_apart : (f : Fates) (b : Books) (n : ℕ) (line : Line) → IsApart line → AreFates f b → AreFates f (entered_in b n line)
line_apart f b n line same h = record {
  living = lives_put f.routers (get nat_cmp f.living) b.living n (option_map (with_line line) (b.living n)) (λ is. lined f.routers line same (get nat_cmp f.living n) (b.living n) (h.living n is)) h.living;
  over = h.over;
  none = h.none;
  placed = placed_put b.living n (option_map (with_line line) (b.living n)) (lined_number line n (b.living n) (h.placed n)) h.placed;
}

-- Maps

apart_at : (n k : ℕ) → k ≢ n → is_at (nat_cmp n) k ≡ false
apart_at n k ne = grind (arith, nat_tests)

pub changes_at : (So : Tenure → Tenure → Type 0) (old new : Fates) (n : ℕ) (t u : Tenure) → get nat_cmp old.living n ≡ Some t → UpdatesBy nat_cmp (nat_cmp n) old.living new.living (Some u) → So t u
    → new.over.items ≡ old.over.items → new.routers ≡ old.routers → Changes So old new n
changes_at So old new n t u was now entered over routers = record { here = rw (was, now.1) entered; others = λ k ne. now.2 k (apart_at n k ne); over = over; routers = routers }

pub changes_nowhere : (So : Tenure → Tenure → Type 0) (old new : Fates) (n : ℕ) → get nat_cmp old.living n ≡ None → ((k : ℕ) → get nat_cmp new.living k ≡ get nat_cmp old.living k) → new.over.items ≡ old.over.items
    → new.routers ≡ old.routers → Changes So old new n
changes_nowhere So old new n was same over routers = record { here = rw was (same n ∙ was); others = λ k ne. same k; over = over; routers = routers }

pub begins_at : (old new : Fates) (a : List ℕ) (n : ℕ) (t : Tenure) → t.number ≡ n → t.mail ≡ a → t.delivered.items ≡ [] → t.routes ≡ None → UpdatesBy nat_cmp (nat_cmp n) old.living new.living (Some t)
    → new.over.items ≡ old.over.items ++ option_to_list (get nat_cmp old.living n) → new.routers ≡ old.routers → Begins old new a n
begins_at old new a n t number mail none routes now over routers = record {
  tenure = t;
  is = now.1;
  number = number;
  mail = mail;
  none = none;
  routes = routes;
  others = λ k ne. now.2 k (apart_at n k ne);
  over = over;
  routers = routers;
}

-- Tests

pub any_map : {A B : Type 0} (f : B → Bool) (g : A → B) (xs : List A) → list_any f (map g xs) ≡ list_any (λ x. f (g x)) xs
any_map f g [] = refl
any_map f g (x ∷ xs) = ap (λ t. f (g x) || t) (any_map f g xs)

any_both : {A : Type 0} (f : A → Bool) (xs ys : List A) → list_any f (xs ++ ys) ≡ (list_any f xs || list_any f ys)
any_both f [] ys = refl
any_both f (x ∷ xs) ys = ap (λ t. f x || t) (any_both f xs ys) ∙ or_shift (f x) (list_any f xs) (list_any f ys)
  where
    or_shift : (a b c : Bool) → (a || (b || c)) ≡ ((a || b) || c)
    or_shift true b c = refl
    or_shift false b c = refl

pub any_reverse : {A : Type 0} (f : A → Bool) (xs : List A) → list_any f (reverse xs) ≡ list_any f xs
any_reverse f [] = refl
any_reverse f (x ∷ xs) = ap (list_any f) (reverse-append (x ∷ []) xs) ∙ any_both f (reverse xs) (x ∷ []) ∙ swap (list_any f (reverse xs)) (list_any f xs) (f x) (any_reverse f xs)
  where
    swap : (a b c : Bool) → a ≡ b → (a || (c || false)) ≡ (c || b)
    swap true true true e = refl
    swap true true false e = refl
    swap false false true e = refl
    swap false false false e = refl
    swap true false c e = absurd (cc)
    swap false true c e = absurd (cc)

entered_is : (r : Routers) (t : Tenure) (q : Injection) (s : Spot) → IsTenure r t q → list_any (is_spot s) (map spot_of t.delivered.items) ≡ is_entered s q
entered_is r t q s h =
    any_map (is_spot s) spot_of t.delivered.items
    ∙ sym (any_reverse (λ (k : KeptSpot). is_spot s (spot_of k)) t.delivered.items)
    ∙ sym (any_map (is_spot s) spot_of (reverse t.delivered.items))
    ∙ ap (list_any (is_spot s)) h.delivered

-- that mail's life with this number, by which the recipient was delivered to
abbrev pub was_so : Spot → List ℕ → ℕ → Tenure → Bool
was_so s mail n t = (t.number == n) && (bytes_eq t.mail mail && list_any (is_spot s) (map spot_of t.delivered.items))

same_so : (r : Routers) (s : Spot) (mail : List ℕ) (n : ℕ) (t : Tenure) (q : Injection) → IsTenure r t q → was_so s mail n t ≡ is_entered_so s mail n q
same_so r s mail n t q h =
    ap (λ (k : ℕ). (k == n) && (bytes_eq t.mail mail && list_any (is_spot s) (map spot_of t.delivered.items))) h.number
    ∙ ap (λ (a : List ℕ). (q.number == n) && (bytes_eq a mail && list_any (is_spot s) (map spot_of t.delivered.items))) h.mail
    ∙ ap (λ (b : Bool). (q.number == n) && (bytes_eq q.actor mail && b)) (entered_is r t q s h)

zip_any : (r : Routers) (s : Spot) (mail : List ℕ) (n : ℕ) (ts : List Tenure) (qs : List Injection) → AllZip (IsTenure r) ts qs → list_any (was_so s mail n) ts ≡ list_any (is_entered_so s mail n) qs
zip_any r s mail n [] [] all = refl
zip_any r s mail n [] (q ∷ qs) all = absurd all
zip_any r s mail n (t ∷ ts) [] all = absurd all
zip_any r s mail n (t ∷ ts) (q ∷ qs) all = ap (λ (b : Bool). b || list_any (was_so s mail n) ts) (same_so r s mail n t q all.0) ∙ ap (λ (b : Bool). is_entered_so s mail n q || b) (zip_any r s mail n ts qs all.1)

-- those of other numbers don't count
numbered_any : (s : Spot) (mail : List ℕ) (n : ℕ) (qs : List Injection) → is_number n ≡ true → list_any (is_entered_so s mail n) (numbered qs) ≡ list_any (is_entered_so s mail n) qs
numbered_any s mail n [] is = refl
numbered_any s mail n (q ∷ qs) is = by (is_number q.number) refl (numbered_any s mail n qs is)
  where
    apart : (b : Bool) → (q.number == n) ≡ b → is_number q.number ≡ false → is_entered_so s mail n q ≡ false
    apart true same none = absurd (let e : true ≡ false = sym is ∙ ap is_number (sym (eqb-true q.number n same)) ∙ none in cc)
    apart false other none = ap (λ (b : Bool). b && (bytes_eq q.actor mail && is_entered s q)) other

    by : (b : Bool) → is_number q.number ≡ b → list_any (is_entered_so s mail n) (numbered qs) ≡ list_any (is_entered_so s mail n) qs
        → list_any (is_entered_so s mail n) (if b then q ∷ numbered qs else numbered qs) ≡ list_any (is_entered_so s mail n) (q ∷ qs)
    by true k rest = ap (λ (b : Bool). is_entered_so s mail n q || b) rest
    by false k rest = rest ∙ sym (ap (λ (b : Bool). b || list_any (is_entered_so s mail n) qs) (apart (q.number == n) refl k))

pub was_delivered_is : (f : Fates) (b : Books) (s : Spot) (mail : List ℕ) (n : ℕ) → AreFates f b → is_number n ≡ true → list_any (was_so s mail n) f.over.items ≡ list_any (is_entered_so s mail n) b.over
was_delivered_is f b s mail n h is =
    sym (any_reverse (was_so s mail n) f.over.items)
    ∙ zip_any f.routers s mail n (reverse f.over.items) (numbered b.over) h.over
    ∙ numbered_any s mail n b.over is

-- The life that lasts

pub delivered_here : (f : Fates) (b : Books) (s : Spot) (mail : List ℕ) (n : ℕ) (t : Tenure) → AreFates f b → is_number n ≡ true → get nat_cmp f.living n ≡ Some t → bytes_eq t.mail mail ≡ true
    → list_any (is_spot s) (map spot_of t.delivered.items) ≡ is_delivered b mail (Some n) s
delivered_here f b s mail n t h is there own = by (b.living n) (subst (λ (o : Option Tenure). IsTenureIf f.routers o (b.living n)) there (h.living n is))
  where
    by : (o : Option Injection) → IsTenureIf f.routers (Some t) o → list_any (is_spot s) (map spot_of t.delivered.items) ≡ is_delivered_by s mail n o b.over
    by None k = absurd k
    by (Some q) k =
        let same : bytes_eq q.actor mail ≡ true = ap (λ (a : List ℕ). bytes_eq a mail) (sym k.mail) ∙ own in
        entered_is f.routers t q s k ∙ sym (ap (λ (c : Bool). if c then is_entered s q else list_any (is_entered_so s mail n) b.over) same)
