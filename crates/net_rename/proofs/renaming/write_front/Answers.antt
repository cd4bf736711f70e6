use Rattle.std.proofs.Common.{◌<◌, ◌∙◌, sym, ap, arith, ◌++◌}
use Rattle.net_rename.specs.Renaming.{renamed_text}
use Rattle.net_rename.proofs.Renamed.{gap_kept, keyword_kept, name_changed, written}
use Rattle.net_rename.proofs.renaming.write_front.Goals as goal
use Rattle.net_rename.proofs.renaming.write_front.Goals.{then-is_open_first+in_ok-extend_from_slice-2, else-is_open_first+in_ok-extend_from_slice-3}

pub returns-then-name_bytes-eq0-clause-renamed : goal.returns-then-name_bytes-eq0-clause-renamed
returns-then-name_bytes-eq0-clause-renamed c pairs one two =
    written pairs c.args.text.now c.split_at.result.0.now c.split_at.result.1.now c.args.out.now.items c.extend_from_slice.new.self.items
    (gap_kept pairs c.args.text.now c.split_at.result.0.now c.split_at.result.1.now c.gap_len.result c.requires.some (sym c.name_len-name_bytes.ensures.count ∙ c.if-name_bytes-eq0.true)
    c.gap_len.ensures.comment c.gap_len.ensures.other c.split_at.ensures.front c.split_at.ensures.back)
    c.in_ok-extend_from_slice.ensures.items

pub returns-clause-renamed : goal.returns-clause-renamed
returns-clause-renamed c pairs one two =
    let some : 0 < c.name_len-name_bytes.result = omega (arith, c.if-name_bytes-eq0.false) in
    elim c.if-is_open_first.branch [
      | then-is_open_first+in_ok-extend_from_slice-2 w ↦
          written pairs c.args.text.now c.split_at-2.result.0.now c.split_at-2.result.1.now c.args.out.now.items c.if-is_open_first.out.items
          (keyword_kept pairs c.args.text.now c.split_at-2.result.0.now c.split_at-2.result.1.now c.name_len-name_bytes.result some c.name_len-name_bytes.ensures.count c.split_at-2.ensures.front c.split_at-2.ensures.back
          (sym c.is_open_first.ensures ∙ w.if-is_open_first.true))
          (ap (λ v. v.items) w.out-is ∙ w.in_ok-extend_from_slice-2.ensures.items)
      | else-is_open_first+in_ok-extend_from_slice-3 w ↦
          written pairs c.args.text.now w.renamed.result.now c.split_at-2.result.1.now c.args.out.now.items c.if-is_open_first.out.items
          (name_changed pairs c.args.text.now c.split_at-2.result.0.now c.split_at-2.result.1.now c.name_len-name_bytes.result some c.name_len-name_bytes.ensures.count c.split_at-2.ensures.front c.split_at-2.ensures.back
          (sym c.is_open_first.ensures ∙ w.if-is_open_first.false) ∙ ap (λ n. n ++ renamed_text pairs c.split_at-2.result.1.now) (sym (w.renamed.ensures pairs one two)))
          (ap (λ v. v.items) w.out-is ∙ w.in_ok-extend_from_slice-3.ensures.items)
    ]
