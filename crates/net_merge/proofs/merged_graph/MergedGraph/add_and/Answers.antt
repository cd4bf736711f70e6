use Rattle.net_merge.proofs.Representing.{AreRepresentatives-keeps}
use Rattle.net_merge.proofs.merged_graph.MergedGraph.add_and.Goals as goal

pub invariant_of-self : goal.invariant_of-self
invariant_of-self g c =
    AreRepresentatives-keeps c.self.inside.graph c.and_of.new.self c.self.inside.representatives c.len.ensures.sound c.and_of.ensures.keeps c.self.invariant
