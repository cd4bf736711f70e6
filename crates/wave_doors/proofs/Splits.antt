-- Records that are splits on this store, at their levels, and whose Ask children are keys of their levels, are what reduction takes.
use Rattle.std.proofs.Common.{◌≡◌, true, false, List, [], sym, subst}
use Rattle.std.proofs.lemmas.List.Elements.{All-contains, All-nil}
use Rattle.dd_store.specs.Nodes.{Nodes, IsSound}
use Rattle.req_table.specs.declared.Record.{Record}
use Rattle.req_table.specs.Keys.{IsKey, level_of, child_of}
use Rattle.reduce_up.specs.Reducing.{IsRecordAt}
use Rattle.req_table.specs.Tables.{row_at}
use Rattle.reduce_up.specs.Levels.{IsAsked, AreRecords}
use Rattle.wave_doors.specs.Levels.{AreSplits}
use Rattle.reduce_up.proofs.Closed.{key_at, right}

pub records_of_splits : (S : Nodes) → IsSound S → (rows : List (List Record)) → AreSplits S rows → AreRecords S rows
records_of_splits S w rows h = record {
  levels = h.levels;
  records = λ v r lt c.
      let k : IsKey S r.key = All-contains (λ r. IsKey S r.key) (row_at rows v) r (h.keys v lt) c in
      subst (λ z. IsRecordAt S z r) (All-contains (λ r. level_of S r.key ≡ v) (row_at rows v) r (h.placed v lt) c) (record {
        key = key_at S w 1 [] (All-nil (IsKey S)) r.key k;
        low = right S w 1 [] (All-nil (IsKey S)) r.key false r.low k (sym (All-contains (λ r. r.low ≡ child_of S r.key false) (row_at rows v) r (h.low v lt) c));
        high = right S w 1 [] (All-nil (IsKey S)) r.key true r.high k (sym (All-contains (λ r. r.high ≡ child_of S r.key true) (row_at rows v) r (h.high v lt) c));
      });
  low_asked = λ v r lt c. All-contains (λ r. IsAsked rows r.low) (row_at rows v) r (h.low_asked v lt) c;
  high_asked = λ v r lt c. All-contains (λ r. IsAsked rows r.high) (row_at rows v) r (h.high_asked v lt) c;
}
