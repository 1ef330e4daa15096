use Rattle.std.proofs.Common.{◌&&◌, true, ℕ, List, nat_cmp, ap, sym, refl, subst, ◌∙◌, rules}
use Rattle.std.specs.Ordering.{is_lt}
use Rattle.std.specs.declared.vec.Vec.{Vec}
use Rattle.std.specs.Cmp.Lexicographic.{slice_cmp}
use Rattle.mem_fs.specs.Tables.{texts, IsRest}
use Rattle.mem_fs.proofs.NameTable.{in_order-texts}
use Rattle.mem_fs.proofs.NextName.{rest_of, rises, follows}
use Rattle.mem_fs.proofs.names.rest_after.Goals as goal

pub returns-in-Ok : goal.returns-in-Ok
returns-in-Ok c =
    let whole = c.args.names.now.entries in
    subst (λ (es : List (Vec ℕ _ × ℕ)). IsRest (texts whole) c.args.dir.now c.args.after.now (texts es)) (sym (c.range.ensures.between (search rules)))
    (rest_of whole (in_order-texts whole c.range.ensures.ordered) _ c.args.dir.now c.args.after.now
    (λ e f later passes. rises is_lt refl refl c.in-Ok.name.items e.0.items f.0.items later passes)
    (λ other some later e is. ap (λ r. is_lt r && true) (ap (λ (x : List ℕ). slice_cmp nat_cmp x e.0.items) c.in-Ok.ensures ∙ follows c.args.dir.now c.args.after.now other e.0.items is later)))

pub returns-in-Err : goal.returns-in-Err
returns-in-Err c =
    let whole = c.args.names.now.entries in
    subst (λ (es : List (Vec ℕ _ × ℕ)). IsRest (texts whole) c.args.dir.now c.args.after.now (texts es)) (sym (c.range-in-Err.ensures.between (search rules)))
    (rest_of whole (in_order-texts whole c.range-in-Err.ensures.ordered) _ c.args.dir.now c.args.after.now (λ e f later passes. refl) (λ other some later e is. refl))
