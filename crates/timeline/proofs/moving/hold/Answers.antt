use Rattle.std.proofs.Common.{◌≡◌, false, ◌<◌, length, get_or, subst, sym, set, ap, ◌∙◌}
use Rattle.timeline_parts.specs.Tables.{numbers_of}
use Rattle.timeline_parts.proofs.Tables.{changed_here}
use Rattle.timeline.specs.Holding.{least_held, holder_of}
use Rattle.timeline.specs.Moving.{taken_end}
use Rattle.timeline.proofs.Stays.{quiet_by, bound_stays, holder_stays}
use Rattle.timeline.proofs.moving.hold.Goals as goal

pub returns-in-Some : goal.returns-in-Some
returns-in-Some c =
    let items = c.args.ends.now.items in
    let place = c.in-Some.place in
    let there : place < length items = subst (λ xs. place < length xs) c.as_slice.ensures.value c.in-Some.ensures.within in
    let found : get_or (numbers_of items) place 0 ≡ c.args.channel = subst (λ xs. get_or (numbers_of xs) place 0 ≡ c.args.channel) c.as_slice.ensures.value c.in-Some.ensures.found in
    let end = c.index_mut.result.now in
    let is = ap (λ e. set items place (end.0, e)) c.advance.ensures.end in
    let quiet = λ (no : c.advance.result ≡ false). quiet_by c.args.bound c.args.appointment end.1 (sym c.advance.ensures.rises ∙ no) in
    record {
      ends = is ∙ changed_here items c.args.channel place (taken_end c.args.taken c.args.appointment) end c.requires.rising there found c.index_mut.ensures.value;
      bound = λ no window before. subst (λ xs. c.args.bound ≡ least_held window xs) (sym is)
          (bound_stays c.args.bound c.args.taken c.args.appointment window items place end there c.index_mut.ensures.value (quiet no) before);
      holder = λ no window before. ap (holder_of c.args.bound) is
          ∙ holder_stays c.args.bound c.args.taken c.args.appointment window items place end there c.index_mut.ensures.value (quiet no) before;
    }
