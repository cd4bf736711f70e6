-- Functions conjoined with a condition.
use Rattle.std.specs.Prelude.{◌&&◌, List, map}
use Rattle.std.specs.List.{AllZip}
use Rattle.dd_store.specs.declared.reference.Ref.{Ref}
use Rattle.dd_store.specs.Nodes.{Nodes, den, IsDiagram}
use Rattle.req_table.specs.declared.Op.TheVariants.{And}
use Rattle.reduce_up.specs.Waves.{Entry}

-- the entries of the wave: the And of each reference and the condition's
abbrev pub conjunctions : List Ref → Ref → List Entry
conjunctions refs given = map (λ r. (And, r, given)) refs

-- each answer is the diagram, in the store `new`, of the And of a reference's function and the condition's, in the
-- store `old`
abbrev pub AreConjoined : Nodes → List Ref → Ref → Nodes → List Ref → Type 0
AreConjoined old refs given new answers = AllZip (λ r a. IsDiagram new a (λ x. den old r x && den old given x)) refs answers
