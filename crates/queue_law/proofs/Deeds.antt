-- What one call of an injector does to the queue: it makes a file, writes one, or changes a name.
use Rattle.std.proofs.Common.{◌≡◌, ◌≢◌, ◌⊎◌, inr, ℕ, List, Bool, true, false, Option, Some, None, refl, sym, ap, ◌∙◌, subst, ⊎_elim}
use Rattle.call_fs.specs.Maps.{put, put_at}
use Rattle.call_fs.specs.Disk.{File, Among}
use Rattle.call_fs.specs.declared.modes.Mode.{Mode}
use Rattle.call_fs.specs.Apply.{empty_file, IsNew}
use Rattle.queue_inject.specs.declared.injection.Arguments.{Arguments}
use Rattle.queue_inject.specs.declared.row.Row.{Row}
use Rattle.queue_paths.specs.Names.{Name, Part, path}
use Rattle.queue_paths.specs.Names.Name.{Pid, Of}
use Rattle.queue_paths.specs.Names.Part.{Mess, Intd, Todo, Info, Local, Remote, Bounce, SplitIntd, SplitTodo}
use Rattle.queue_paths.specs.Parts.{in_todo}
use Rattle.queue_paths.proofs.Parts.{todo_out}
use Rattle.queue_law.specs.Books.{Injection, Books, IsInjected}
use Rattle.call_fs.proofs.Maps.{put_cases, put_same, put_other, put_at_cases, put_at_other}
use Rattle.queue_law.proofs.Tests.{off, tells_name}
use Rattle.queue_law.specs.Numbers.{Entry, entry, Role, Queue, look, IsPidRole, IsRecent, IsRight, Suits, NameSuits, NamesSuit, About, about, is_later, is_later_name, IsUnsorted, Phase, NoneLost, Sound, IsEarly}
use Rattle.queue_law.proofs.Looks.{find_some, find_none, not_found, find_far, find_put, find_other, found}
use Rattle.queue_law.proofs.Frame.{still_there}
use Rattle.queue_law.specs.Injectors.{IsBegun, Basis}
use Rattle.queue_law.specs.Numbers.Role.{AsMessage, AsPart, AsDrop, AsOld}
use Rattle.queue_law.specs.Numbers.Phase.{Free}
use Rattle.queue_law.specs.Steps.{Touches, Concerns, Apart, Elsewhere, Outside, LeavesLater, IsForeignRole, LeavesOld}

-- a new file with a new name
abbrev pub made : Queue → List ℕ → Name → (fd i read : ℕ) → Role → Queue
made q a x fd i read role = record {
  disk = record {
    dirs = q.disk.dirs;
    names = put_at q.disk.names (path x) (Some i);
    files = put q.disk.files i (empty_file read);
    opens = put q.disk.opens fd (Some (record { number = i; mode = Mode.Created }));
  };
  holder = put q.holder fd (Some a);
  books = q.books;
  role = put q.role i role;
}

-- another file of this number
abbrev pub written : Queue → ℕ → File → Queue
written q j f = record {
  disk = record { dirs = q.disk.dirs; names = q.disk.names; files = put q.disk.files j f; opens = q.disk.opens };
  holder = q.holder;
  books = q.books;
  role = q.role;
}

-- a name that came or went, and what the books say then
abbrev pub named : Queue → Name → Option ℕ → Books → Queue
named q x o c = record {
  disk = record { dirs = q.disk.dirs; names = put_at q.disk.names (path x) o; files = q.disk.files; opens = q.disk.opens };
  holder = q.holder;
  books = c;
  role = q.role;
}

-- no name has a file of this number
abbrev pub IsNowhere : Queue → ℕ → Type 0
IsNowhere q n = (x : Name) (y : Entry) → look q x ≡ Some y → y.number ≢ n

-- The number is this injector's to touch: no name has a file of it yet, or its file is its own, and it may touch it.
abbrev pub IsOwn : Queue → List ℕ → Arguments → ℕ → Type 0
IsOwn q a args n = IsNowhere q n ⊎ ((q.role n ≡ AsMessage a args) × Touches q a args n)

-- What a call of a leads to: of the number in `number` this holds then, of all else nothing changed, and the next row
-- has what it rests on.
pub record Outcome (now : ℕ) (q : Queue) (a : List ℕ) (args : Arguments) (r : Queue) (row : Row) : Type 0 where
  pub number : Option ℕ
  pub elsewhere : Elsewhere now a number q r
  pub suits : NamesSuit r
  pub fine : (n : ℕ) → number ≡ Some n → Phase (about r n)
  pub over : NoneLost r.books
  pub accepted : (i : Injection) → IsInjected q.books i → i.accepted ≡ true → IsInjected r.books i
  pub waits : IsEarly q → (n : ℕ) (i : Injection) → r.books.living n ≡ Some i → i.accepted ≡ true → in_todo (about r n).parts ≢ None
  pub none_over : IsEarly q → (i : Injection) → Among i r.books.over → i.accepted ≡ true → ⊥
  pub outside : Outside q.disk r.disk
  pub old : LeavesOld q r
  pub later : LeavesLater q r
  pub unsorted : (n : ℕ) → number ≡ Some n → IsUnsorted (about q n)
  pub own : (n : ℕ) → number ≡ Some n → IsOwn q a args n
  pub next : Basis r a args row

-- a number whose injection has begun is free
pub begun_phase : (q : Queue) (a : List ℕ) (args : Arguments) (n : ℕ) → IsBegun (about q n) a args n → Phase (about q n)
begun_phase q a args n h = Free (record {
  not_accepted = λ i lives t. let w = h.lives in let v : i.accepted ≡ false = cc in off (sym v ∙ t);
  unsorted = h.unsorted;
  no_todo = h.no_todo;
  intd_below = λ none. let w = h.mess in absurd (cc);
})

-- a part that comes with preprocessing has another name than one that comes before it
pub later_far : (x : Name) (part : Part) (n : ℕ) → is_later_name x ≡ false → is_later part ≡ true → Of part n ≢ x
later_far x part n early later same = off (sym early ∙ sym (ap is_later_name same) ∙ later)

pub at_number : (r : Queue) (P : About → Type 0) (n : ℕ) → P (about r n) → (k : ℕ) → ◌≡◌ {A = Option ℕ} (Some n) (Some k) → P (about r k)
at_number r P n h k same = let w : n ≡ k = cc in subst (λ k. P (about r k)) w h

-- a file that comes with preprocessing was made as one
abbrev is_later_role : Role → Bool
is_later_role (AsMessage actor args) = false
is_later_role (AsPart part n) = is_later part
is_later_role (AsDrop actor) = false
is_later_role AsOld = false

early_role : (x : Name) (i : ℕ) (role : Role) → is_later_name x ≡ false → Suits x i role → is_later_role role ≡ false
early_role (Pid p s k) i (AsMessage actor args) early h = refl
early_role (Pid p s k) i (AsPart part n) early h = absurd h
early_role (Pid p s k) i (AsDrop actor) early h = absurd h
early_role (Pid p s k) i AsOld early h = refl
early_role (Of Mess n) i role early h = ap is_later_role h.1.2
early_role (Of Intd n) i role early h = ap is_later_role h
early_role (Of Todo n) i role early h = ap is_later_role h
early_role (Of SplitIntd n) i role early h = absurd h
early_role (Of SplitTodo n) i role early h = absurd h
early_role (Of part n) i role early h = absurd (off (sym early))

later_role : (part : Part) (n i : ℕ) (role : Role) → is_later part ≡ true → Suits (Of part n) i role → is_later_role role ≡ true
later_role Info n i role later h = ap is_later_role h
later_role Local n i role later h = ap is_later_role h
later_role Remote n i role later h = ap is_later_role h
later_role Bounce n i role later h = ap is_later_role h
later_role other n i role later h = absurd (off later)

-- where the names lead
module _ (q : Queue) (x : Name) where
  module _ (a : List ℕ) (fd i read : ℕ) (role : Role) (new : IsNew q.disk (path x) fd i) where
    pub unnamed : (y : Name) (z : Entry) → look q y ≡ Some z → z.number ≢ i
    unnamed y z h same = new.unused.unnamed (path y) ((found q.disk.names q.disk.files y z h).0 ∙ ap Some same)

    pub made_same : look (made q a x fd i read role) x ≡ Some (record { number = i; file = empty_file read })
    made_same =
        let files = put q.disk.files i (empty_file read) in
        find_put q.disk.names files x i ∙ ap (λ f. Some (record { number = i; file = f })) (put_same q.disk.files i (empty_file read))

    pub made_other : (y : Name) → y ≢ x → look (made q a x fd i read role) y ≡ look q y
    made_other y far =
        find_other q.disk.names (put q.disk.files i (empty_file read)) x y (Some i) far
        ∙ find_far q.disk.names q.disk.files y i (empty_file read) (unnamed y)

    -- what wasn't there then wasn't there before
    pub made_none : (y : Name) → look (made q a x fd i read role) y ≡ None → look q y ≡ None
    made_none y none = ⊎_elim
        (λ (same : y ≡ x). let w = made_same in let v = ap (look (made q a x fd i read role)) same in absurd (cc))
        (λ (far : y ≢ x). sym (made_other y far) ∙ none)
        (tells_name x y)

  pub named_other : (o : Option ℕ) (c : Books) (y : Name) → y ≢ x → look (named q x o c) y ≡ look q y
  named_other o c y far = find_other q.disk.names q.disk.files x y o far

-- the number that a file was made for
abbrev pub made_for : ℕ → Role → ℕ
made_for i (AsMessage actor args) = i
made_for i (AsPart part n) = n
made_for i (AsDrop actor) = i
made_for i AsOld = i

pid_number : (i start : ℕ) (role : Role) → IsPidRole start role → made_for i role ≡ i
pid_number i start (AsMessage actor args) h = refl
pid_number i start (AsPart part n) h = absurd h
pid_number i start (AsDrop actor) h = absurd h
pid_number i start AsOld h = refl

-- what none of the queue's programs made is of its own number
foreign_number : (i : ℕ) (role : Role) → IsForeignRole role → made_for i role ≡ i
foreign_number i (AsMessage actor args) h = absurd h
foreign_number i (AsPart part n) h = absurd h
foreign_number i (AsDrop actor) h = refl
foreign_number i AsOld h = refl

module _ (now : ℕ) (q : Queue) (S : NamesSuit q) where
  -- each name of a file concerns the number that the file was made for
  pub its_number : (x : Name) (y : Entry) → look q x ≡ Some y → Concerns q x (Some (made_for y.number (q.role y.number)))
  its_number (Pid p s k) y h = λ z g. let w = pid_number y.number s (q.role y.number) (S (Pid p s k) y h).0 in cc
  its_number (Of Mess k) y h = let w = (S (Of Mess k) y h).0 in ap (λ u. Some (made_for y.number u)) w.1.2 ∙ ap Some w.0
  its_number (Of Intd k) y h = ap (λ u. Some (made_for y.number u)) (S (Of Intd k) y h).0
  its_number (Of Todo k) y h = ap (λ u. Some (made_for y.number u)) (S (Of Todo k) y h).0
  its_number (Of Info k) y h = ap (λ u. Some (made_for y.number u)) (S (Of Info k) y h).0
  its_number (Of Local k) y h = ap (λ u. Some (made_for y.number u)) (S (Of Local k) y h).0
  its_number (Of Remote k) y h = ap (λ u. Some (made_for y.number u)) (S (Of Remote k) y h).0
  its_number (Of Bounce k) y h = ap (λ u. Some (made_for y.number u)) (S (Of Bounce k) y h).0
  its_number (Of SplitIntd k) y h = absurd (S (Of SplitIntd k) y h).0
  its_number (Of SplitTodo k) y h = absurd (S (Of SplitTodo k) y h).0

  -- an injector's message is no other injector's
  pub own_apart : (a : List ℕ) (args : Arguments) (n : ℕ) → q.role n ≡ AsMessage a args → Apart now q a (Some n)
  own_apart a args n mine o args' other soon x y h his touches same =
      let w : n ≡ y.number = cc in
      let v : q.role n ≡ q.role y.number = ap q.role w in
      other (cc)

  -- the names still suit
  module _ (x : Name) where
    pub made_suits : (a : List ℕ) (fd i read : ℕ) (role : Role) → IsNew q.disk (path x) fd i
        → IsRight x (record { number = i; file = empty_file read }) role → NamesSuit (made q a x fd i read role)
    made_suits a fd i read role new right y z h =
        let r = made q a x fd i read role in
        let e : Entry = record { number = i; file = empty_file read } in
        ⊎_elim
        (λ (same : y ≡ x).
        let s : Some e ≡ Some z = sym (made_same q x a fd i read role new) ∙ ap (look r) (sym same) ∙ h in
        let w : e ≡ z = cc in
        let here : IsRight x e (r.role i) = subst (IsRight x e) (sym (put_same q.role i role)) right in
        subst (λ v. IsRight v z (r.role z.number)) (sym same) (subst (λ (v : Entry). IsRight x v (r.role v.number)) w here))
        (λ (far : y ≢ x).
        let old = sym (made_other q x a fd i read role new y far) ∙ h in
        let kept = put_other q.role i role z.number (unnamed q x a fd i read role new y z old) in
        subst (IsRight y z) (sym kept) (S y z old))
        (tells_name x y)

    pub named_suits : (o : Option ℕ) (c : Books) → NameSuits (named q x o c) x → NamesSuit (named q x o c)
    named_suits o c here y z h = ⊎_elim
        (λ (same : y ≡ x). subst (λ v. IsRight v z (q.role z.number)) (sym same) (here z (ap (look (named q x o c)) (sym same) ∙ h)))
        (λ (far : y ≢ x). S y z (sym (named_other q x o c y far) ∙ h))
        (tells_name x y)

  pub written_suits : (j : ℕ) (f : File) → IsRecent f (q.role j) → NamesSuit (written q j f)
  written_suits j f recent y z h =
      let files = put q.disk.files j f in
      let w = found q.disk.names files y z h in
      let right = S y (entry q.disk.files z.number) (find_some q.disk.names q.disk.files y z.number w.0) in
      let file : z.file ≡ files z.number = ap (λ (v : Entry). v.file) w.1 in (
        right.0,
        ⊎_elim
            (λ (c : (z.number ≡ j) × (files z.number ≡ f)).
            subst (λ v. IsRecent v (q.role z.number)) (sym (file ∙ c.1)) (subst (λ k. IsRecent f (q.role k)) (sym c.0) recent))
            (λ (c : (z.number ≢ j) × (files z.number ≡ q.disk.files z.number)).
            subst (λ v. IsRecent v (q.role z.number)) (sym (file ∙ c.1)) right.1)
            (put_cases q.disk.files j f z.number),
      )

-- a new file of the queue is none of those outside it
pub made_outside : (q : Queue) (x : Name) (fd i read : ℕ) → IsNew q.disk (path x) fd i
    → Outside q.disk (record {
      dirs = q.disk.dirs;
      names = put_at q.disk.names (path x) (Some i);
      files = put q.disk.files i (empty_file read);
      opens = put q.disk.opens fd (Some (record { number = i; mode = Mode.Created }));
    })
made_outside q x fd i read new = record {
  names = λ name far. put_at_other q.disk.names (path x) (Some i) name (λ same. far x (sym same));
  files = λ k out. put_other q.disk.files i (empty_file read) k (λ same. new.unused.unnamed out.name (out.there ∙ ap Some same));
  unqueued = λ k out y is. ⊎_elim
      (λ c. new.unused.unnamed out.name (out.there ∙ sym (sym c.1 ∙ is)))
      (λ c. out.unqueued y (sym c.1 ∙ is))
      (put_at_cases q.disk.names (path x) (Some i) (path y));
}

-- nor of those that none of the queue's programs made; and what is written is none of them either
pub made_old : (q : Queue) (a : List ℕ) (x : Name) (fd i read : ℕ) (role : Role) → IsNew q.disk (path x) fd i → LeavesOld q (made q a x fd i read role)
made_old q a x fd i read role new = record {
  files = λ name k there _. put_other q.disk.files i (empty_file read) k (λ same. new.unused.unnamed name (there ∙ ap Some same));
  roles = λ name k there. put_other q.role i role k (λ same. new.unused.unnamed name (there ∙ ap Some same));
}

pub written_old : (q : Queue) (j : ℕ) (f : File) → (IsForeignRole (q.role j) → ⊥) → LeavesOld q (written q j f)
written_old q j f new = record {
  files = λ name k there was. put_other q.disk.files j f k (λ same. new (subst (λ n. IsForeignRole (q.role n)) same was));
  roles = λ _ _ _. refl;
}

-- the outcome of each deed
module _ (now : ℕ) (q : Queue) (a : List ℕ) (args : Arguments) (G : Sound q) where
  abbrev pub Leads : Queue → Row → Type 0
  Leads r row = Outcome now q a args r row

  number_own : (n : ℕ) → IsOwn q a args n → (k : ℕ) → ◌≡◌ {A = Option ℕ} (Some n) (Some k) → IsOwn q a args k
  number_own n own k same = let w : n ≡ k = cc in subst (IsOwn q a args) w own

  pub made_outcome : (x : Name) (fd i read : ℕ) (role : Role) (m : ℕ) (row : Row) → IsNew q.disk (path x) fd i → is_later_name x ≡ false → IsUnsorted (about q m) → IsOwn q a args m
      → Concerns q x (Some m) → Apart now q a (Some m) → IsRight x (record { number = i; file = empty_file read }) role
      → Phase (about (made q a x fd i read role) m) → Basis (made q a x fd i read role) a args row
      → Leads (made q a x fd i read role) row
  made_outcome x fd i read role m row new early unsorted own concerns apart right fine next = record {
    number = Some m;
    elsewhere = record {
      looks = λ y far. made_other q x a fd i read role new y (λ same. far (subst (λ z. Concerns q z (Some m)) (sym same) concerns));
      living = λ _ _. refl;
      opens = λ o k j other h.
          let w = new.not_open in
          let far : k ≢ fd = λ same. let v : q.disk.opens k ≡ q.disk.opens fd = ap q.disk.opens same in let u = h.opened in absurd (cc) in
          record { opened = put_other q.disk.opens fd _ k far ∙ h.opened; held = put_other q.holder fd _ k far ∙ h.held };
      roles = λ y z h. put_other q.role i role z.number (unnamed q x a fd i read role new y z h);
      apart = apart;
      accepted = λ i h _. still_there q.books i h;
    };
    accepted = λ _ h _. h;
    waits = λ e k p lives t none. e.waits k p lives t
        (todo_out (about (made q a x fd i read role) k).parts (about q k).parts (λ part is. made_none q x a fd i read role new (Of part k)) none);
    none_over = λ e. e.none_over;
    suits = made_suits now q G.suits x a fd i read role new right;
    fine = at_number (made q a x fd i read role) (Phase) m fine;
    later = λ part n later. made_other q x a fd i read role new (Of part n) (later_far x part n early later);
    unsorted = at_number q IsUnsorted m unsorted;
    own = number_own m own;
    over = G.over;
    outside = made_outside q x fd i read new;
    old = made_old q a x fd i read role new;
    next = next;
  }

  pub written_outcome : (x : Name) (j : ℕ) (f : File) (n : ℕ) (row : Row) → is_later_name x ≡ false → IsUnsorted (about q n) → q.disk.names (path x) ≡ Some j → q.role n ≡ AsMessage a args → made_for j (q.role j) ≡ n
      → IsRecent f (q.role j) → IsBegun (about (written q j f) n) a args n → Basis (written q j f) a args row → Leads (written q j f) row
  written_outcome x j f n row early unsorted there mine own recent begins next = record {
    number = Some n;
    elsewhere = record {
      looks = λ y far. find_far q.disk.names q.disk.files y j f (λ z h same.
          far (subst (λ k. Concerns q y (Some k)) (ap (λ k. made_for k (q.role k)) same ∙ own) (its_number now q G.suits y z h)));
      living = λ _ _. refl;
      opens = λ _ _ _ _ h. h;
      roles = λ _ _ _. refl;
      apart = own_apart now q G.suits a args n mine;
      accepted = λ i h _. still_there q.books i h;
    };
    accepted = λ _ h _. h;
    waits = λ e k i lives t none. e.waits k i lives t (todo_out (about (written q j f) k).parts (about q k).parts
        (λ part is gone. find_none q.disk.names q.disk.files (Of part k) (not_found q.disk.names (put q.disk.files j f) (Of part k) gone)) none);
    none_over = λ e. e.none_over;
    suits = written_suits now q G.suits j f recent;
    fine = at_number (written q j f) (Phase) n (begun_phase (written q j f) a args n begins);
    later = λ part k later. find_far q.disk.names q.disk.files (Of part k) j f (λ z h same.
        let mine = early_role x j (q.role j) early (G.suits x (entry q.disk.files j) (find_some q.disk.names q.disk.files x j there)).0 in
        let his = later_role part k z.number (q.role z.number) later (G.suits (Of part k) z h).0 in
        off (sym mine ∙ ap (λ i. is_later_role (q.role i)) (sym same) ∙ his));
    unsorted = at_number q IsUnsorted n unsorted;
    own = number_own n (inr (mine, inr begins.lives));
    over = G.over;
    outside = record {
      names = λ _ _. refl;
      files = λ k out. put_other q.disk.files j f k (λ same. out.unqueued x (there ∙ ap Some (sym same)));
      unqueued = λ k out y is. out.unqueued y is;
    };
    old = written_old q j f (λ was. let same : n ≡ j = sym own ∙ foreign_number j (q.role j) was in subst IsForeignRole (ap q.role (sym same) ∙ mine) was);
    next = next;
  }

  pub named_outcome : (x : Name) (o : Option ℕ) (c : Books) (n : ℕ) (row : Row) → is_later_name x ≡ false → IsUnsorted (about q n) → q.role n ≡ AsMessage a args
      → Touches q a args n → ((k : ℕ) → o ≡ Some k → (y : Name) × (q.disk.names (path y) ≡ Some k)) → Concerns q x (Some n) → NameSuits (named q x o c) x → ((k : ℕ) → k ≢ n → c.living k ≡ q.books.living k)
      → ((i : Injection) → IsInjected q.books i → i.accepted ≡ true → IsInjected c i) → NoneLost c
      → (IsEarly q → (k : ℕ) (i : Injection) → c.living k ≡ Some i → i.accepted ≡ true → in_todo (about (named q x o c) k).parts ≢ None)
      → (IsEarly q → (i : Injection) → Among i c.over → i.accepted ≡ true → ⊥)
      → Phase (about (named q x o c) n) → Basis (named q x o c) a args row → Leads (named q x o c) row
  named_outcome x o c n row early unsorted mine touches queued concerns here living accepted over waits none_over fine next = record {
    number = Some n;
    elsewhere = record {
      looks = λ y far. named_other q x o c y (λ same. far (subst (λ z. Concerns q z (Some n)) (sym same) concerns));
      living = λ k far. living k (λ same. far (ap Some (sym same)));
      opens = λ _ _ _ _ h. h;
      roles = λ _ _ _. refl;
      apart = own_apart now q G.suits a args n mine;
      accepted = λ i h t. still_there c i (accepted i h t);
    };
    accepted = accepted;
    waits = waits;
    none_over = none_over;
    suits = named_suits now q G.suits x o c here;
    fine = at_number (named q x o c) (Phase) n fine;
    later = λ part k later. named_other q x o c (Of part k) (later_far x part k early later);
    unsorted = at_number q IsUnsorted n unsorted;
    own = number_own n (inr (mine, touches));
    over = over;
    outside = record {
      names = λ name far. put_at_other q.disk.names (path x) o name (λ same. far x (sym same));
      files = λ _ _. refl;
      unqueued = λ k out y is. ⊎_elim
          (λ c. let w = queued k (sym c.1 ∙ is) in out.unqueued w.0 w.1)
          (λ c. out.unqueued y (sym c.1 ∙ is))
          (put_at_cases q.disk.names (path x) o (path y));
    };
    old = record { files = λ _ _ _ _. refl; roles = λ _ _ _. refl };
    next = next;
  }
