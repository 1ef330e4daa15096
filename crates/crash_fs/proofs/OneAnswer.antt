-- A disk that fails only if it is chosen, and has memory, gives a call one answer.
use Rattle.std.proofs.Common.{◌≡◌, ◌≢◌, ◌⊎◌, ℕ, ◌<◌, ◌≤◌, min, List, length, Option, Some, None, IsSome, Contains, true, false, is_gt, refl, sym, ap, ◌∙◌, inl, inr, ⊎_elim, arith}
use Rattle.std.specs.Ordering.{nat_cmp, ordering_reverse}
use Rattle.std.specs.Cmp.Lexicographic.{slice_cmp}
use Rattle.std.specs.declared.cmp.Ordering.{Ordering}
use Rattle.std.specs.declared.cmp.Ordering.TheVariants.{Less, Equal, Greater}
use Rattle.std.proofs.lemmas.Bool.{cases_lt}
use Rattle.std.proofs.lemmas.Cmp.{nat_list_cmp_total}
use Rattle.std.proofs.lemmas.Map.Lookups.{exact_bytes}
use Rattle.call_fs.specs.declared.calls.Fd.{Fd}
use Rattle.call_fs.specs.declared.calls.How.{How}
use Rattle.call_fs.specs.declared.calls.Stat.{Stat as StatOf}
use Rattle.call_fs.specs.declared.calls.FsError.TheVariants.{NotThere, Exists, Fault, Memory}
use Rattle.call_fs.specs.declared.calls.CallData.{CallData}
use Rattle.call_fs.specs.declared.calls.CallData.TheVariants.{CreateExcl, Open, ReadAt, WriteAt, Append, Truncate, Sync, Close, Link, Unlink, Stat, NextName}
use Rattle.call_fs.specs.declared.calls.Answer.{Answer}
use Rattle.call_fs.specs.declared.calls.Answer.TheVariants as answer
use Rattle.call_fs.specs.declared.calls.Told.{Told}
use Rattle.call_fs.specs.Disk.{Disk, HasDir}
use Rattle.call_fs.specs.Free.{IsFree, IsLeastFree, IsNextDescriptor}
use Rattle.call_fs.specs.Plan.{Plan, Takes, TakesNumber}
use Rattle.call_fs.specs.Apply.{Fits, IsReadBy, read_by, from_place, IsNew, IsOpenable, IsLinkable, IsStat, IsNextName, IsLastName}
use Rattle.crash_fs.specs.Answers.{Answers}
use Rattle.crash_fs.proofs.CountedCalls.{fail_both}

-- an answer of such a disk that is no failure, without the bytes of a read
record Gets (d : Disk) (pick : Option ℕ) (call : CallData) (a : Answer) : Type 0 where
  pub fits : Fits d call a 0
  pub least : Takes d pick a
  pub no_fault : a ≢ answer.Refused Fault
  pub no_memory : a ≢ answer.Refused Memory

none-some : (o : Option ℕ) → o ≡ None → IsSome o → ⊥
none-some None e h = absurd (cc)
none-some (Some n) e h = absurd (cc)

-- The least of what is free

one_least : (P : ℕ → Type 0) (m n : ℕ) → P m → P n → ((k : ℕ) → k < m → ¬ (P k)) → ((k : ℕ) → k < n → ¬ (P k)) → m ≡ n
one_least P m n p q below_m below_n =
    ⊎_elim (λ less. absurd (below_n m less p)) (λ more. ⊎_elim (λ less. absurd (below_m n less q)) (λ least. omega arith) (cases_lt n m)) (cases_lt m n)

one_descriptor : (d : Disk) (a b : ℕ) → IsNextDescriptor d a → IsNextDescriptor d b → a ≡ b
one_descriptor d a b p q =
    one_least (λ fd. (1 ≤ fd) × (d.opens fd ≡ None)) a b (p.positive, p.not_open) (q.positive, q.not_open)
    (λ k less h. p.least k h.0 less h.1) (λ k less h. q.least k h.0 less h.1)

one_number : (d : Disk) (a b : ℕ) → IsLeastFree d a → IsLeastFree d b → a ≡ b
one_number d a b p q = one_least (IsFree d) a b p.free q.free p.least q.least

-- `CreateExcl`

-- the number that a new file takes is one
one_taken : (d : Disk) (pick : Option ℕ) (a b : ℕ) → TakesNumber d pick a → TakesNumber d pick b → a ≡ b
one_taken d None a b p q = one_number d a b p q
one_taken d (Some n) a b (inl p) (inl q) = p.1 ∙ sym q.1
one_taken d (Some n) a b (inl p) (inr q) = absurd (q.0 p.0)
one_taken d (Some n) a b (inr p) (inl q) = absurd (p.0 q.0)
one_taken d (Some n) a b (inr p) (inr q) = one_number d a b p.1 q.1

abbrev IsCreated : Disk → Option ℕ → List ℕ → Answer → Type 0
IsCreated d pick name a =
    ((fd : Fd) × (n : ℕ) × IsNew d name fd.0 n × IsNextDescriptor d fd.0 × TakesNumber d pick n × (a ≡ answer.Created fd n))
    ⊎ (((¬ (HasDir d name)) × (a ≡ answer.Refused NotThere)) ⊎ (HasDir d name × IsSome (d.names name) × (a ≡ answer.Refused Exists)))

is-created : {pick : Option ℕ} (d : Disk) (name : List ℕ) (a : Answer) → Gets d pick (CreateExcl name) a → IsCreated d pick name a
is-created d name (answer.Created fd n) h = inl (fd, n, h.fits, h.least.0, h.least.1, refl)
is-created d name (answer.Refused NotThere) h = inr (inl (h.fits, refl))
is-created d name (answer.Refused Exists) h = inr (inr (h.fits.0, h.fits.1, refl))
is-created d name (answer.Refused Fault) h = absurd (h.no_fault refl)
is-created d name (answer.Refused Memory) h = absurd (h.no_memory refl)
is-created d name other h = absurd h.fits

one-created : (d : Disk) (pick : Option ℕ) (name : List ℕ) (a b : Answer) → IsCreated d pick name a → IsCreated d pick name b → a ≡ b
one-created d pick name a b (inl p) (inl q) =
    let n = one_taken d pick p.1 q.1 p.4 q.4 in
    let fd = one_descriptor d p.0.0 q.0.0 p.3 q.3 in
    p.5 ∙ ap (λ (k : ℕ). let fd : Fd = record { 0 = k } in answer.Created fd p.1) fd ∙ ap (answer.Created q.0) n ∙ sym q.5
one-created d pick name a b (inl p) (inr (inl q)) = absurd (q.0 p.2.dir)
one-created d pick name a b (inl p) (inr (inr q)) = absurd (none-some (d.names name) p.2.free q.1)
one-created d pick name a b (inr (inl p)) (inl q) = absurd (p.0 q.2.dir)
one-created d pick name a b (inr (inl p)) (inr (inl q)) = p.1 ∙ sym q.1
one-created d pick name a b (inr (inl p)) (inr (inr q)) = absurd (p.0 q.0)
one-created d pick name a b (inr (inr p)) (inl q) = absurd (none-some (d.names name) q.2.free p.1)
one-created d pick name a b (inr (inr p)) (inr (inl q)) = absurd (q.0 p.0)
one-created d pick name a b (inr (inr p)) (inr (inr q)) = p.2 ∙ sym q.2

-- `Open`

abbrev IsOpened : Disk → List ℕ → Answer → Type 0
IsOpened d name a =
    ((fd : Fd) × IsOpenable d name fd.0 × IsNextDescriptor d fd.0 × (a ≡ answer.Opened fd))
    ⊎ ((d.names name ≡ None) × (a ≡ answer.Refused NotThere))

is-opened : {pick : Option ℕ} (d : Disk) (name : List ℕ) (how : How) (a : Answer) → Gets d pick (Open name how) a → IsOpened d name a
is-opened d name how (answer.Opened fd) h = inl (fd, h.fits, h.least, refl)
is-opened d name how (answer.Refused NotThere) h = inr (h.fits, refl)
is-opened d name how (answer.Refused Exists) h = absurd h.fits
is-opened d name how (answer.Refused Fault) h = absurd (h.no_fault refl)
is-opened d name how (answer.Refused Memory) h = absurd (h.no_memory refl)
is-opened d name how other h = absurd h.fits

one-opened : (d : Disk) (name : List ℕ) (a b : Answer) → IsOpened d name a → IsOpened d name b → a ≡ b
one-opened d name a b (inl p) (inl q) =
    p.3 ∙ ap (λ (k : ℕ). let fd : Fd = record { 0 = k } in answer.Opened fd) (one_descriptor d p.0.0 q.0.0 p.2 q.2) ∙ sym q.3
one-opened d name a b (inl p) (inr q) = absurd (none-some (d.names name) q.0 p.1.there)
one-opened d name a b (inr p) (inl q) = absurd (none-some (d.names name) p.0 q.1.there)
one-opened d name a b (inr p) (inr q) = p.1 ∙ sym q.1

-- `ReadAt`

was-read : {pick : Option ℕ} (d : Disk) (fd : Fd) (place len : ℕ) (a : Answer) → Gets d pick (ReadAt fd place len) a
    → a ≡ answer.Count (min len (length (from_place d (d.opens fd.0) place)))
was-read d fd place len (answer.Count count) h = ap answer.Count h.fits.1
was-read d fd place len (answer.Refused NotThere) h = absurd h.fits
was-read d fd place len (answer.Refused Exists) h = absurd h.fits
was-read d fd place len (answer.Refused Fault) h = absurd (h.no_fault refl)
was-read d fd place len (answer.Refused Memory) h = absurd h.fits
was-read d fd place len other h = absurd h.fits

-- `WriteAt`, `Append`, `Truncate`, `Sync`, `Close`: done

overwrote : {pick : Option ℕ} (d : Disk) (fd : Fd) (place : ℕ) (bytes : List ℕ) (a : Answer) → Gets d pick (WriteAt fd place bytes) a → a ≡ answer.Done
overwrote d fd place bytes answer.Done h = refl
overwrote d fd place bytes (answer.Refused NotThere) h = absurd h.fits
overwrote d fd place bytes (answer.Refused Exists) h = absurd h.fits
overwrote d fd place bytes (answer.Refused Fault) h = absurd (h.no_fault refl)
overwrote d fd place bytes (answer.Refused Memory) h = absurd (h.no_memory refl)
overwrote d fd place bytes other h = absurd h.fits

was-cut : {pick : Option ℕ} (d : Disk) (fd : Fd) (len : ℕ) (a : Answer) → Gets d pick (Truncate fd len) a → a ≡ answer.Done
was-cut d fd len answer.Done h = refl
was-cut d fd len (answer.Refused NotThere) h = absurd h.fits
was-cut d fd len (answer.Refused Exists) h = absurd h.fits
was-cut d fd len (answer.Refused Fault) h = absurd (h.no_fault refl)
was-cut d fd len (answer.Refused Memory) h = absurd h.fits
was-cut d fd len other h = absurd h.fits

appended : {pick : Option ℕ} (d : Disk) (fd : Fd) (bytes : List ℕ) (a : Answer) → Gets d pick (Append fd bytes) a → a ≡ answer.Done
appended d fd bytes answer.Done h = refl
appended d fd bytes (answer.Refused NotThere) h = absurd h.fits
appended d fd bytes (answer.Refused Exists) h = absurd h.fits
appended d fd bytes (answer.Refused Fault) h = absurd (h.no_fault refl)
appended d fd bytes (answer.Refused Memory) h = absurd (h.no_memory refl)
appended d fd bytes other h = absurd h.fits

was-synced : {pick : Option ℕ} (d : Disk) (fd : Fd) (a : Answer) → Gets d pick (Sync fd) a → a ≡ answer.Done
was-synced d fd answer.Done h = refl
was-synced d fd (answer.Refused NotThere) h = absurd h.fits
was-synced d fd (answer.Refused Exists) h = absurd h.fits
was-synced d fd (answer.Refused Fault) h = absurd (h.no_fault refl)
was-synced d fd (answer.Refused Memory) h = absurd h.fits
was-synced d fd other h = absurd h.fits

was-closed : {pick : Option ℕ} (d : Disk) (fd : Fd) (a : Answer) → Gets d pick (Close fd) a → a ≡ answer.Done
was-closed d fd answer.Done h = refl
was-closed d fd other h = absurd h.fits

-- `Link`

abbrev IsLinked : Disk → List ℕ → List ℕ → Answer → Type 0
IsLinked d old new a =
    (IsLinkable d old new × (a ≡ answer.Done))
    ⊎ ((((d.names old ≡ None) ⊎ (¬ (HasDir d new))) × (a ≡ answer.Refused NotThere)) ⊎ (IsSome (d.names old) × HasDir d new × IsSome (d.names new) × (a ≡ answer.Refused Exists)))

is-linked : {pick : Option ℕ} (d : Disk) (old new : List ℕ) (a : Answer) → Gets d pick (Link old new) a → IsLinked d old new a
is-linked d old new answer.Done h = inl (h.fits, refl)
is-linked d old new (answer.Refused NotThere) h = inr (inl (h.fits, refl))
is-linked d old new (answer.Refused Exists) h = inr (inr (h.fits.0, h.fits.1, h.fits.2, refl))
is-linked d old new (answer.Refused Fault) h = absurd (h.no_fault refl)
is-linked d old new (answer.Refused Memory) h = absurd (h.no_memory refl)
is-linked d old new other h = absurd h.fits

-- neither of two names is missing
not-lacking : (d : Disk) (old new : List ℕ) → (d.names old ≡ None) ⊎ (¬ (HasDir d new)) → IsSome (d.names old) → HasDir d new → ⊥
not-lacking d old new (inl none) there dir = none-some (d.names old) none there
not-lacking d old new (inr none) there dir = none dir

one-linked : (d : Disk) (old new : List ℕ) (a b : Answer) → IsLinked d old new a → IsLinked d old new b → a ≡ b
one-linked d old new a b (inl p) (inl q) = p.1 ∙ sym q.1
one-linked d old new a b (inl p) (inr (inl q)) = absurd (not-lacking d old new q.0 p.0.there p.0.dir)
one-linked d old new a b (inl p) (inr (inr q)) = absurd (none-some (d.names new) p.0.free q.2)
one-linked d old new a b (inr (inl p)) (inl q) = absurd (not-lacking d old new p.0 q.0.there q.0.dir)
one-linked d old new a b (inr (inl p)) (inr (inl q)) = p.1 ∙ sym q.1
one-linked d old new a b (inr (inl p)) (inr (inr q)) = absurd (not-lacking d old new p.0 q.0 q.1)
one-linked d old new a b (inr (inr p)) (inl q) = absurd (none-some (d.names new) q.0.free p.2)
one-linked d old new a b (inr (inr p)) (inr (inl q)) = absurd (not-lacking d old new q.0 p.0 p.1)
one-linked d old new a b (inr (inr p)) (inr (inr q)) = p.3 ∙ sym q.3

-- `Unlink`

abbrev IsUnlinked : Disk → List ℕ → Answer → Type 0
IsUnlinked d name a = (IsSome (d.names name) × (a ≡ answer.Done)) ⊎ ((d.names name ≡ None) × (a ≡ answer.Refused NotThere))

is-unlinked : {pick : Option ℕ} (d : Disk) (name : List ℕ) (a : Answer) → Gets d pick (Unlink name) a → IsUnlinked d name a
is-unlinked d name answer.Done h = inl (h.fits, refl)
is-unlinked d name (answer.Refused NotThere) h = inr (h.fits, refl)
is-unlinked d name (answer.Refused Exists) h = absurd h.fits
is-unlinked d name (answer.Refused Fault) h = absurd (h.no_fault refl)
is-unlinked d name (answer.Refused Memory) h = absurd h.fits
is-unlinked d name other h = absurd h.fits

one-unlinked : (d : Disk) (name : List ℕ) (a b : Answer) → IsUnlinked d name a → IsUnlinked d name b → a ≡ b
one-unlinked d name a b (inl p) (inl q) = p.1 ∙ sym q.1
one-unlinked d name a b (inl p) (inr q) = absurd (none-some (d.names name) q.0 p.0)
one-unlinked d name a b (inr p) (inl q) = absurd (none-some (d.names name) p.0 q.0)
one-unlinked d name a b (inr p) (inr q) = p.1 ∙ sym q.1

-- `Stat`

abbrev IsTold : Disk → List ℕ → Answer → Type 0
IsTold d name a = ((stat : StatOf) × IsStat d name stat × (a ≡ answer.Stat stat)) ⊎ ((d.names name ≡ None) × (a ≡ answer.Refused NotThere))

is-told : {pick : Option ℕ} (d : Disk) (name : List ℕ) (a : Answer) → Gets d pick (Stat name) a → IsTold d name a
is-told d name (answer.Stat stat) h = inl (stat, h.fits, refl)
is-told d name (answer.Refused NotThere) h = inr (h.fits, refl)
is-told d name (answer.Refused Exists) h = absurd h.fits
is-told d name (answer.Refused Fault) h = absurd (h.no_fault refl)
is-told d name (answer.Refused Memory) h = absurd h.fits
is-told d name other h = absurd h.fits

one-stat : (d : Disk) (name : List ℕ) (s t : StatOf) → IsStat d name s → IsStat d name t → s ≡ t
one-stat d name s t p q =
    let n : s.number ≡ t.number = let same : Some s.number ≡ Some t.number = sym p.number ∙ q.number in cc in
    let l : s.length ≡ t.length = p.length_is ∙ ap (λ n. length (d.files n).bytes) n ∙ sym q.length_is in
    let m : s.moment ≡ t.moment = p.moment_is ∙ ap (λ n. (d.files n).moment) n ∙ sym q.moment_is in
    ap (λ (n : ℕ). let x : StatOf = record { number = n; length = s.length; moment = s.moment } in x) n
    ∙ ap (λ (l : ℕ). let x : StatOf = record { number = t.number; length = l; moment = s.moment } in x) l
    ∙ ap (λ (m : ℕ). let x : StatOf = record { number = t.number; length = t.length; moment = m } in x) m

one-told : (d : Disk) (name : List ℕ) (a b : Answer) → IsTold d name a → IsTold d name b → a ≡ b
one-told d name a b (inl p) (inl q) = p.2 ∙ ap answer.Stat (one-stat d name p.0 q.0 p.1 q.1) ∙ sym q.2
one-told d name a b (inl p) (inr q) = absurd (let none = sym q.0 ∙ p.1.number in cc)
one-told d name a b (inr p) (inl q) = absurd (let none = sym p.0 ∙ q.1.number in cc)
one-told d name a b (inr p) (inr q) = p.1 ∙ sym q.1

-- `NextName`

abbrev IsNamed : Disk → List ℕ → List ℕ → Answer → Type 0
IsNamed d dir after a =
    (Contains d.dirs dir × (name : List ℕ) × IsNextName d dir after name × (a ≡ answer.Name name))
    ⊎ ((Contains d.dirs dir × IsLastName d dir after × (a ≡ answer.NoName)) ⊎ ((¬ (Contains d.dirs dir)) × (a ≡ answer.Refused NotThere)))

is-named : {pick : Option ℕ} (d : Disk) (dir after : List ℕ) (a : Answer) → Gets d pick (NextName dir after) a → IsNamed d dir after a
is-named d dir after (answer.Name name) h = inl (h.fits.0, name, h.fits.1, refl)
is-named d dir after answer.NoName h = inr (inl (h.fits.0, h.fits.1, refl))
is-named d dir after (answer.Refused NotThere) h = inr (inr (h.fits, refl))
is-named d dir after (answer.Refused Exists) h = absurd h.fits
is-named d dir after (answer.Refused Fault) h = absurd (h.no_fault refl)
is-named d dir after (answer.Refused Memory) h = absurd h.fits
is-named d dir after other h = absurd h.fits

-- two texts of which neither is above the other are one
by-order : (a b : List ℕ) (o : Ordering) → slice_cmp nat_cmp a b ≡ o → is_gt (slice_cmp nat_cmp a b) ≡ false → is_gt (slice_cmp nat_cmp b a) ≡ false → a ≡ b
by-order a b Equal is low high = exact_bytes a b is
by-order a b Greater is low high = absurd (let above : true ≡ false = sym (ap is_gt is) ∙ low in cc)
by-order a b Less is low high =
    absurd (let above : true ≡ false = sym (ap is_gt (nat_list_cmp_total.antisymm b a ∙ ap ordering_reverse is)) ∙ high in cc)

one-name : (d : Disk) (dir after a b : List ℕ) → IsNextName d dir after a → IsNextName d dir after b → a ≡ b
one-name d dir after a b p q = by-order a b (slice_cmp nat_cmp a b) refl (p.least b q.stands) (q.least a p.stands)

one-named : (d : Disk) (dir after : List ℕ) (a b : Answer) → IsNamed d dir after a → IsNamed d dir after b → a ≡ b
one-named d dir after a b (inl p) (inl q) = p.3 ∙ ap answer.Name (one-name d dir after p.1 q.1 p.2 q.2) ∙ sym q.3
one-named d dir after a b (inl p) (inr (inl q)) = absurd (q.1 p.1 p.2.stands)
one-named d dir after a b (inl p) (inr (inr q)) = absurd (q.0 p.0)
one-named d dir after a b (inr (inl p)) (inl q) = absurd (p.1 q.1 q.2.stands)
one-named d dir after a b (inr (inl p)) (inr (inl q)) = p.2 ∙ sym q.2
one-named d dir after a b (inr (inl p)) (inr (inr q)) = absurd (q.0 p.0)
one-named d dir after a b (inr (inr p)) (inl q) = absurd (p.0 q.0)
one-named d dir after a b (inr (inr p)) (inr (inl q)) = absurd (p.0 q.0)
one-named d dir after a b (inr (inr p)) (inr (inr q)) = p.1 ∙ sym q.1

-- Each call

gets_one : {pick : Option ℕ} (d : Disk) (call : CallData) (a b : Answer) → Gets d pick call a → Gets d pick call b → a ≡ b
gets_one {pick} d (CreateExcl name) a b p q = one-created d pick name a b (is-created d name a p) (is-created d name b q)
gets_one d (Open name how) a b p q = one-opened d name a b (is-opened d name how a p) (is-opened d name how b q)
gets_one d (ReadAt fd place len) a b p q = was-read d fd place len a p ∙ sym (was-read d fd place len b q)
gets_one d (WriteAt fd place bytes) a b p q = overwrote d fd place bytes a p ∙ sym (overwrote d fd place bytes b q)
gets_one d (Truncate fd len) a b p q = was-cut d fd len a p ∙ sym (was-cut d fd len b q)
gets_one d (Append fd bytes) a b p q = appended d fd bytes a p ∙ sym (appended d fd bytes b q)
gets_one d (Sync fd) a b p q = was-synced d fd a p ∙ sym (was-synced d fd b q)
gets_one d (Close fd) a b p q = was-closed d fd a p ∙ sym (was-closed d fd b q)
gets_one d (Link old new) a b p q = one-linked d old new a b (is-linked d old new a p) (is-linked d old new b q)
gets_one d (Unlink name) a b p q = one-unlinked d name a b (is-unlinked d name a p) (is-unlinked d name b q)
gets_one d (Stat name) a b p q = one-told d name a b (is-told d name a p) (is-told d name b q)
gets_one d (NextName dir after) a b p q = one-named d dir after a b (is-named d dir after a p) (is-named d dir after b q)

-- the bytes of a read, by the answer
reads_one : (d : Disk) (call : CallData) (t u : Told) → t.answer ≡ u.answer → IsReadBy d call t → IsReadBy d call u → t.bytes ≡ u.bytes
reads_one d (CreateExcl name) t u same p q = p ∙ sym q
reads_one d (Open name how) t u same p q = p ∙ sym q
reads_one d (ReadAt fd place len) t u same p q = p ∙ ap (read_by d (d.opens fd.0) place) same ∙ sym q
reads_one d (WriteAt fd place bytes) t u same p q = p ∙ sym q
reads_one d (Append fd bytes) t u same p q = p ∙ sym q
reads_one d (Truncate fd len) t u same p q = p ∙ sym q
reads_one d (Sync fd) t u same p q = p ∙ sym q
reads_one d (Close fd) t u same p q = p ∙ sym q
reads_one d (Link old new) t u same p q = p ∙ sym q
reads_one d (Unlink name) t u same p q = p ∙ sym q
reads_one d (Stat name) t u same p q = p ∙ sym q
reads_one d (NextName dir after) t u same p q = p ∙ sym q

got : (plan : Plan) (d : Disk) (call : CallData) (t : Told) → t.answer ≢ answer.Refused Fault → Answers plan d call t → Gets d plan.pick call t.answer
got plan d call t other h = record { fits = h.fits; least = h.takes; no_fault = other; no_memory = h.no_memory }

pub one_answer : (plan : Plan) (d : Disk) (call : CallData) (t u : Told) → Answers plan d call t → Answers plan d call u → t ≡ u
one_answer plan d call t u p q =
    let same : t.answer ≡ u.answer = ⊎_elim
    (λ failed. failed.0 ∙ sym failed.1)
    (λ other. gets_one d call t.answer u.answer (got plan d call t other.0 p) (got plan d call u other.1 q))
    (fail_both call plan t.answer u.answer p.fails q.fails) in
    ap (λ (a : Answer). let x : Told = record { answer = a; bytes = t.bytes } in x) same
    ∙ ap (λ (b : List ℕ). let x : Told = record { answer = u.answer; bytes = b } in x) (reads_one d call t u same p.bytes q.bytes)
