use Rattle.std.proofs.Common.{◌≡◌, ℕ, suc, ◌<◌, ◌+◌, ◌-◌, ◌++◌, ◌∷◌, ◌⊎◌, inl, inr, subst, List, Vec, Global, Bor, true, false, length, get_or, add-one, drop, map, filter, All, refl, ap, sym, ◌∙◌, arith, drop_of_length-le}
use Rattle.std.specs.Prelude.{◌&&◌, Option, Some, Err}
use Rattle.std.specs.Option.{option_map}
use Rattle.std.proofs.Math.Seq.{drop-cons}
use Rattle.std.proofs.lemmas.Result.{err_from_is_err_and}
use Rattle.std.proofs.lemmas.List.Elements.{All-append, All-filter}
use Rattle.dml_tree.specs.declared.tree.Place.{Place}
use Rattle.dml_tree.specs.Attributes.{Attributes, weight}
use Rattle.dml_resolve.specs.declared.members.Member.{Member}
use Rattle.dml_resolve.specs.Resolving.{first_list, same_key, is_find, is_substitution, is_schemas, components, level, plain_entries, named, named_from}
use Rattle.dml_resolve.specs.Members.{entries_of, is_keyed, is_missing, moved_to, IsWithin, IsSmall}
use Rattle.dml_resolve.proofs.Entries.{tree_whole}
use Rattle.dml_resolve.proofs.Measures.{lighter, find_within, included_within, small_within}
use Rattle.dml_resolve.proofs.LevelSteps.{on_ok, levels, levels_step, levels_fault, levels_end, given_plain, followed_named, followed_found, followed_find, followed_list_fault, followed_level_fault, followed_extends, bind_err, named_first, named_step, named_list_fault, named_level_fault, named_unknown, keyed_some}
use Rattle.dml_resolve.proofs.levels.+levels.Goals as goal

or_fault : {M P Q : Type 0} → (P → Q) → M ⊎ P → M ⊎ Q
or_fault f (inl m) = inl m
or_fault f (inr p) = inr (f p)

path_of_text : (text bytes : List ℕ) (read : Option (Vec (Bor (List ℕ)) Global)) (path : Vec (Bor (List ℕ)) Global) (slice : List (Bor (List ℕ))) → bytes ≡ text →
    option_map (λ (found : Vec (Bor (List ℕ)) Global). map (λ (component : Bor (List ℕ)). component.now) found.items) read ≡ components bytes → read ≡ Some path → slice ≡ path.items →
    components text ≡ Some (map (λ (component : Bor (List ℕ)). component.now) slice)
path_of_text text bytes read path slice e f g h =
    ap components (sym e) ∙ (sym f ∙ (ap (option_map (λ (found : Vec (Bor (List ℕ)) Global). map (λ (component : Bor (List ℕ)). component.now) found.items)) g
    ∙ ap (λ (l : List (Bor (List ℕ))). Some (map (λ (component : Bor (List ℕ)). component.now) l)) (sym h)))

item_of : (xs : List (Bor (List ℕ))) (i : ℕ) (d : Bor (List ℕ)) → i < length xs → map (λ (component : Bor (List ℕ)). component.now) (drop i xs) ≡ (get_or xs i d).now ∷ map (λ (component : Bor (List ℕ)). component.now) (drop (i + 1) xs)
item_of xs i d lt = ap (map (λ (component : Bor (List ℕ)). component.now)) (drop-cons xs i d lt ∙ ap (λ n. get_or xs i d ∷ drop n xs) (sym (add-one i)))

named_start : (root : Attributes) (place : Place) (left : ℕ) (path others : List (Bor (List ℕ))) (first : Bor (List ℕ)) (read found : List Member) (w : ℕ) → path ≡ first ∷ others →
    entries_of root read ≡ filter (same_key first.now) (plain_entries (level root left) root) → found ≡ read → 0 < length found →
    named place (level root left) (map (λ (component : Bor (List ℕ)). component.now) path) (plain_entries (level root left) root) w ≡ named_from place (level root left) (map (λ (component : Bor (List ℕ)). component.now) others) (entries_of root found) w
named_start root place left path others first read found w e f g some =
    ap (λ (l : List (Bor (List ℕ))). named place (level root left) (map (λ (component : Bor (List ℕ)). component.now) l) (plain_entries (level root left) root) w) e
    ∙ named_first root place (level root left) first.now (map (λ (component : Bor (List ℕ)). component.now) others) (plain_entries (level root left) root) found w
    (keyed_some root place first.now (plain_entries (level root left) root) found w (ap (entries_of root) g ∙ f) some)

pub add-returns-then-is_substitution-clause-within : goal.add-returns-then-is_substitution-clause-within
add-returns-then-is_substitution-clause-within t c = on_ok c.follow.result (λ h. h c.args.is_root) c.follow.ensures.within

pub add-returns-clause-added : goal.add-returns-clause-added
add-returns-clause-added t c =
    let x = c.args.attribute.now in
    let substitution : is_substitution x.key ≡ false = ap is_substitution (sym c.as_bytes-key.ensures) ∙ sym c.is_substitution.ensures ∙ c.if-is_substitution.false in
    let kept = c.is_kept.ensures ∙ ap (λ k. c.args.is_root && is_schemas k) c.as_bytes-key.ensures in
    given_plain c.args.root.now c.args.left c.args.is_root c.args.written.now x c.args.members.now.items _ _ c.args.counter.now.counted substitution c.in_ok-push.ensures.items refl kept refl

pub follow-returns-in_err-found-clause-fault : goal.follow-returns-in_err-found-clause-fault
follow-returns-in_err-found-clause-fault t c =
    let root = c.args.root.now in
    let x = c.args.attribute.now in
    let path = path_of_text c.in-Plain.text c.as_bytes.result.now c.in_ok-path.field-0 c.in-Some.path c.as_slice.result.now c.as_bytes.ensures c.in_ok-path.ensures c.in-Some.is c.as_slice.ensures.value in
    let named_there = followed_named root c.args.left c.args.written.now x c.in-Plain.text _ c.args.counter.now.counted _ c.if-left-eq0.false c.in-Plain.is path c.in_ok-count.ensures.counted in
    let p = err_from_is_err_and c.from_residual-in_err-found.result c.from_residual-in_err-found.ensures.1 in
    rw (p.1, p.2) (or_fault (λ e. named_there ∙ bind_err _ c.in_err-found.field-0.0 _ e) c.in_err-found.ensures.fault)

pub follow-returns-then-is_find-clause-added : goal.follow-returns-then-is_find-clause-added
follow-returns-then-is_find-clause-added t c =
    let root = c.args.root.now in
    let x = c.args.attribute.now in
    let path = path_of_text c.in-Plain.text c.as_bytes.result.now c.in_ok-path.field-0 c.in-Some.path c.as_slice.result.now c.as_bytes.ensures c.in_ok-path.ensures c.in-Some.is c.as_slice.ensures.value in
    let found_there = followed_found root c.args.left c.args.written.now x c.in-Plain.text _ c.in_ok-found.found.items c.args.counter.now.counted _ _ c.if-left-eq0.false c.in-Plain.is path c.in_ok-count.ensures.counted c.in_ok-found.ensures.named in
    let find : is_find x.key ≡ true = ap is_find (sym c.as_bytes-2.ensures) ∙ sym c.is_find.ensures ∙ c.if-is_find.true in
    let new = c.in_ok-push_found.ensures ∙ ap (λ l. c.args.members.now.items ++ map (moved_to (c.args.left - 1)) l) c.as_slice-then-is_find.ensures.value in
    followed_find root c.args.left c.args.written.now x c.in_ok-found.found.items c.args.members.now.items _ c.args.counter.now.counted _ found_there find new

pub follow-returns-then-is_find-clause-within : goal.follow-returns-then-is_find-clause-within
follow-returns-then-is_find-clause-within t c = λ is_root old.
    let root = c.args.root.now in
    let new = c.in_ok-push_found.ensures ∙ ap (λ l. c.args.members.now.items ++ map (moved_to (c.args.left - 1)) l) c.as_slice-then-is_find.ensures.value in
    let left : c.args.left ≡ suc (c.args.left - 1) = omega (arith, c.if-left-eq0.false) in
    subst (All (IsWithin root c.args.left c.args.written.now is_root)) (sym new)
    (All-append (IsWithin root c.args.left c.args.written.now is_root) c.args.members.now.items (map (moved_to (c.args.left - 1)) c.in_ok-found.found.items) old (find_within root c.args.written.now c.args.left (c.args.left - 1) is_root c.in_ok-found.found.items left c.in_ok-found.ensures.small))

pub follow-returns-in_err-list-clause-fault : goal.follow-returns-in_err-list-clause-fault
follow-returns-in_err-list-clause-fault t c =
    let root = c.args.root.now in
    let x = c.args.attribute.now in
    let path = path_of_text c.in-Plain.text c.as_bytes.result.now c.in_ok-path.field-0 c.in-Some.path c.as_slice.result.now c.as_bytes.ensures c.in_ok-path.ensures c.in-Some.is c.as_slice.ensures.value in
    let found_there = followed_found root c.args.left c.args.written.now x c.in-Plain.text _ c.in_ok-found.found.items c.args.counter.now.counted _ _ c.if-left-eq0.false c.in-Plain.is path c.in_ok-count.ensures.counted c.in_ok-found.ensures.named in
    let extends : is_find x.key ≡ false = ap is_find (sym c.as_bytes-2.ensures) ∙ sym c.is_find.ensures ∙ c.if-is_find.false in
    let p = err_from_is_err_and c.from_residual-in_err-list.result c.from_residual-in_err-list.ensures.1 in
    let w = c.named.new.counter.counted in
    let none_there = ap (λ l. first_list x.place (entries_of root l) w) (sym c.as_slice-2.ensures.value) ∙ c.in_err-list.ensures.none root w in
    rw (p.1, p.2) (inr (followed_list_fault root c.args.left c.args.written.now x c.in_ok-found.found.items c.args.counter.now.counted w c.in_err-list.field-0.0 found_there extends none_there))

pub follow-returns-in_err-included-clause-fault : goal.follow-returns-in_err-included-clause-fault
follow-returns-in_err-included-clause-fault t c =
    let root = c.args.root.now in
    let x = c.args.attribute.now in
    let path = path_of_text c.in-Plain.text c.as_bytes.result.now c.in_ok-path.field-0 c.in-Some.path c.as_slice.result.now c.as_bytes.ensures c.in_ok-path.ensures c.in-Some.is c.as_slice.ensures.value in
    let found_there = followed_found root c.args.left c.args.written.now x c.in-Plain.text _ c.in_ok-found.found.items c.args.counter.now.counted _ _ c.if-left-eq0.false c.in-Plain.is path c.in_ok-count.ensures.counted c.in_ok-found.ensures.named in
    let extends : is_find x.key ≡ false = ap is_find (sym c.as_bytes-2.ensures) ∙ sym c.is_find.ensures ∙ c.if-is_find.false in
    let p = err_from_is_err_and c.from_residual-in_err-included.result c.from_residual-in_err-included.ensures.1 in
    let w = c.named.new.counter.counted in
    let list_there = ap (λ l. first_list x.place (entries_of root l) w) (sym c.as_slice-2.ensures.value) ∙ c.in_ok-list.ensures.list root w in
    rw (p.1, p.2) (or_fault (followed_level_fault root c.args.left c.args.written.now x c.in_ok-found.found.items c.in_ok-list.list.now c.args.counter.now.counted w c.in_err-included.field-0.0 found_there extends list_there) c.in_err-included.ensures.fault)

pub follow-returns-clause-added : goal.follow-returns-clause-added
follow-returns-clause-added t c =
    let root = c.args.root.now in
    let x = c.args.attribute.now in
    let path = path_of_text c.in-Plain.text c.as_bytes.result.now c.in_ok-path.field-0 c.in-Some.path c.as_slice.result.now c.as_bytes.ensures c.in_ok-path.ensures c.in-Some.is c.as_slice.ensures.value in
    let found_there = followed_found root c.args.left c.args.written.now x c.in-Plain.text _ c.in_ok-found.found.items c.args.counter.now.counted _ _ c.if-left-eq0.false c.in-Plain.is path c.in_ok-count.ensures.counted c.in_ok-found.ensures.named in
    let extends : is_find x.key ≡ false = ap is_find (sym c.as_bytes-2.ensures) ∙ sym c.is_find.ensures ∙ c.if-is_find.false in
    let w = c.named.new.counter.counted in
    let list_there = ap (λ l. first_list x.place (entries_of root l) w) (sym c.as_slice-2.ensures.value) ∙ c.in_ok-list.ensures.list root w in
    let new = c.in_ok-push_missing.ensures ∙ ap (λ l. c.args.members.now.items ++ filter (is_missing c.args.written.now) l) c.as_slice-3.ensures.value in
    followed_extends root c.args.left c.args.written.now x c.in_ok-found.found.items c.in_ok-included.included.items c.args.members.now.items _ c.in_ok-list.list.now c.args.counter.now.counted w _ found_there extends list_there c.in_ok-included.ensures.level new

pub follow-returns-clause-within : goal.follow-returns-clause-within
follow-returns-clause-within t c = λ is_root old.
    let root = c.args.root.now in
    let new = c.in_ok-push_missing.ensures ∙ ap (λ l. c.args.members.now.items ++ filter (is_missing c.args.written.now) l) c.as_slice-3.ensures.value in
    let left : c.args.left ≡ suc (c.args.left - 1) = omega (arith, c.if-left-eq0.false) in
    subst (All (IsWithin root c.args.left c.args.written.now is_root)) (sym new)
    (All-append (IsWithin root c.args.left c.args.written.now is_root) c.args.members.now.items (filter (is_missing c.args.written.now) c.in_ok-included.included.items) old (included_within root c.args.written.now c.in_ok-list.list.now c.args.left (c.args.left - 1) is_root c.in_ok-included.included.items left c.in_ok-included.ensures.within))

pub level-add-requires : goal.level-add-requires
level-add-requires t c =
    (omega (arith, c.decreases), (c.requires, (lighter c.args.written.now c.attributes-attribute-items.result.now c.loop-attribute.attribute-index c.attribute-item.result c.attributes-attribute-items.ensures c.loop-attribute-test.true c.attribute-item.is, c.loop-attribute.invariant.keys)))

pub level-returns-in_err-add-clause-fault : goal.level-returns-in_err-add-clause-fault
level-returns-in_err-add-clause-fault t c =
    let root = c.args.root.now in
    let written = c.args.written.now in
    let items = c.attributes-attribute-items.result.now in
    let p = err_from_is_err_and c.from_residual.result c.from_residual.ensures.1 in
    let whole = ap (λ t. levels root c.args.left c.args.is_root written t c.args.counter.now.counted) (sym (tree_whole written items c.attributes-attribute-items.ensures)) ∙ sym c.loop-attribute.invariant.level in
    rw (p.1, p.2) (or_fault (λ e. whole ∙ levels_fault root c.args.left c.args.is_root written items c.loop-attribute.attribute-index c.attribute-item.result (entries_of root c.loop-attribute.members.items) c.loop-attribute.counter.counted c.in_err-add.field-0.0 c.loop-attribute-test.true c.attribute-item.is e) c.in_err-add.ensures.fault)

pub level-loop-attribute-preserved : goal.level-loop-attribute-preserved
level-loop-attribute-preserved t c =
    let root = c.args.root.now in
    let written = c.args.written.now in
    let items = c.attributes-attribute-items.result.now in
    record {
      level = sym (levels_step root c.args.left c.args.is_root written items c.loop-attribute.attribute-index c.attribute-item.result (entries_of root c.loop-attribute.members.items) _ c.loop-attribute.counter.counted _ c.loop-attribute-test.true c.attribute-item.is c.in_ok-add.ensures.added) ∙ c.loop-attribute.invariant.level;
      rises = omega (arith, c.in_ok-add.ensures.rises, c.loop-attribute.invariant.rises);
      within = c.in_ok-add.ensures.within c.loop-attribute.invariant.within;
      keys = c.in_ok-add.ensures.keys;
    }

pub level-returns-clause-level : goal.level-returns-clause-level
level-returns-clause-level t c =
    let root = c.args.root.now in
    let written = c.args.written.now in
    let items = c.attributes-attribute-items.result.now in
    ap (λ t. levels root c.args.left c.args.is_root written t c.args.counter.now.counted) (sym (tree_whole written items c.attributes-attribute-items.ensures))
    ∙ (sym c.loop-attribute.invariant.level
    ∙ levels_end root c.args.left c.args.is_root written items c.loop-attribute.attribute-index (entries_of root c.loop-attribute.members.items) c.loop-attribute.counter.counted c.loop-attribute-test.false)

pub named-returns-in_err-list-clause-fault : goal.named-returns-in_err-list-clause-fault
named-returns-in_err-list-clause-fault t c =
    let root = c.args.root.now in
    let w = c.args.counter.now.counted in
    let others = c.in-Some.others.now in
    let start = named_start root c.args.place c.args.left c.args.path.now others c.in-Some.first.now c.in_ok-in_root.field-0.items c.in_ok-found.found.items w c.in-Some.ensures.cases.0 c.in_ok-in_root.ensures.found c.in_ok-found.ensures.some.0 c.in_ok-found.ensures.some.1 in
    let at = c.loop-component in
    let whole = start ∙ (sym at.invariant.named ∙ ap (λ l. named_from c.args.place (level root c.args.left) l (entries_of root at.found.items) at.counter.counted) (item_of others at.component-index c.in-Some.first.now c.loop-component-test.true)) in
    let p = err_from_is_err_and c.from_residual-in_err-list.result c.from_residual-in_err-list.ensures.1 in
    let none_there = ap (λ l. first_list c.args.place (entries_of root l) at.counter.counted) (sym c.as_slice.ensures.value) ∙ c.in_err-list.ensures.none root at.counter.counted in
    rw (p.1, p.2) (inr (whole ∙ named_list_fault c.args.place (level root c.args.left) _ _ (entries_of root at.found.items) at.counter.counted c.in_err-list.field-0.0 none_there))

pub named-level-requires : goal.named-level-requires
named-level-requires t c =
    (omega (arith, c.decreases), c.in_ok-list.ensures.small (weight c.args.root.now) (subst (All (IsSmall (weight c.args.root.now))) (sym c.as_slice.ensures.value) c.loop-component.invariant.small))

pub named-returns-in_err-inside-clause-fault : goal.named-returns-in_err-inside-clause-fault
named-returns-in_err-inside-clause-fault t c =
    let root = c.args.root.now in
    let w = c.args.counter.now.counted in
    let others = c.in-Some.others.now in
    let start = named_start root c.args.place c.args.left c.args.path.now others c.in-Some.first.now c.in_ok-in_root.field-0.items c.in_ok-found.found.items w c.in-Some.ensures.cases.0 c.in_ok-in_root.ensures.found c.in_ok-found.ensures.some.0 c.in_ok-found.ensures.some.1 in
    let at = c.loop-component in
    let whole = start ∙ (sym at.invariant.named ∙ ap (λ l. named_from c.args.place (level root c.args.left) l (entries_of root at.found.items) at.counter.counted) (item_of others at.component-index c.in-Some.first.now c.loop-component-test.true)) in
    let list_there = ap (λ l. first_list c.args.place (entries_of root l) at.counter.counted) (sym c.as_slice.ensures.value) ∙ c.in_ok-list.ensures.list root at.counter.counted in
    let p = err_from_is_err_and c.from_residual-in_err-inside.result c.from_residual-in_err-inside.ensures.1 in
    rw (p.1, p.2) (or_fault (λ e. whole ∙ named_level_fault c.args.place (level root c.args.left) _ _ (entries_of root at.found.items) c.in_ok-list.list.now at.counter.counted c.in_err-inside.field-0.0 list_there e) c.in_err-inside.ensures.fault)

pub named-returns-in_err-found-2-clause-fault : goal.named-returns-in_err-found-2-clause-fault
named-returns-in_err-found-2-clause-fault t c =
    let root = c.args.root.now in
    let w = c.args.counter.now.counted in
    let others = c.in-Some.others.now in
    let start = named_start root c.args.place c.args.left c.args.path.now others c.in-Some.first.now c.in_ok-in_root.field-0.items c.in_ok-found.found.items w c.in-Some.ensures.cases.0 c.in_ok-in_root.ensures.found c.in_ok-found.ensures.some.0 c.in_ok-found.ensures.some.1 in
    let list_there = ap (λ l. first_list c.args.place (entries_of root l) c.loop-component.counter.counted) (sym c.as_slice.ensures.value) ∙ c.in_ok-list.ensures.list root c.loop-component.counter.counted in
    let at = c.loop-component in
    let p = err_from_is_err_and c.from_residual-in_err-found-2.result c.from_residual-in_err-found-2.ensures.1 in
    let next = c.in_ok-with_key.ensures ∙ ap (filter (is_keyed _)) c.as_slice-in-loop-component.ensures.value in
    let unknown = named_unknown root c.args.place (level root c.args.left) _ (map (λ (component : Bor (List ℕ)). component.now) (drop (at.component-index + 1) others)) at.found.items c.in_ok-inside.inside.items c.in_ok-with_key.field-0.items c.in_ok-list.list.now at.counter.counted _ list_there c.in_ok-inside.ensures.level next c.in_err-found-2.ensures.none.0 in
    rw (p.1, p.2) (inr (start ∙ (sym at.invariant.named ∙ (ap (λ l. named_from c.args.place (level root c.args.left) l (entries_of root at.found.items) at.counter.counted) (item_of others at.component-index _ c.loop-component-test.true) ∙ (unknown ∙ ap Err (sym c.in_err-found-2.ensures.none.1))))))

pub named-loop-component-preserved : goal.named-loop-component-preserved
named-loop-component-preserved t c =
    let root = c.args.root.now in
    let others = c.in-Some.others.now in
    let at = c.loop-component in
    let list_there = ap (λ l. first_list c.args.place (entries_of root l) at.counter.counted) (sym c.as_slice.ensures.value) ∙ c.in_ok-list.ensures.list root at.counter.counted in
    let same = c.in_ok-found-2.ensures.some.0 in
    let next = same ∙ (c.in_ok-with_key.ensures ∙ ap (filter (is_keyed _)) c.as_slice-in-loop-component.ensures.value) in
    let small = All-filter (is_keyed _) (IsSmall (weight root)) c.in_ok-inside.inside.items (small_within root c.in_ok-list.list.now c.args.left false c.in_ok-inside.inside.items c.in_ok-inside.ensures.within) in
    record {
      named =
          sym (named_step root c.args.place (level root c.args.left) _ (map (λ (component : Bor (List ℕ)). component.now) (drop (at.component-index + 1) others)) at.found.items c.in_ok-inside.inside.items c.in_ok-found-2.found.items c.in_ok-list.list.now at.counter.counted _ list_there c.in_ok-inside.ensures.level next c.in_ok-found-2.ensures.some.1)
          ∙ (ap (λ l. named_from c.args.place (level root c.args.left) l (entries_of root at.found.items) at.counter.counted) (sym (item_of others at.component-index _ c.loop-component-test.true)) ∙ at.invariant.named);
      rises = omega (arith, at.invariant.rises, c.in_ok-inside.ensures.rises);
      small = subst (All (IsSmall (weight root))) (sym next) small;
    }

pub named-returns-clause-named : goal.named-returns-clause-named
named-returns-clause-named t c =
    let root = c.args.root.now in
    let w = c.args.counter.now.counted in
    let others = c.in-Some.others.now in
    let start = named_start root c.args.place c.args.left c.args.path.now others c.in-Some.first.now c.in_ok-in_root.field-0.items c.in_ok-found.found.items w c.in-Some.ensures.cases.0 c.in_ok-in_root.ensures.found c.in_ok-found.ensures.some.0 c.in_ok-found.ensures.some.1 in
    let at = c.loop-component in
    start ∙ (sym at.invariant.named ∙ ap (λ l. named_from c.args.place (level root c.args.left) (map (λ (component : Bor (List ℕ)). component.now) l) (entries_of root at.found.items) at.counter.counted) (drop_of_length-le others c.loop-component-test.false))
