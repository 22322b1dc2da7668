-- Laws of flow and order at the network of five entities.
use Prim.Native.Nat.{ℕ}
use mathlib.Core.Path.{◌≡◌}
use lib.Dec.{lit<}
use Rattle.theory.specs.Flow.{Flow}
use Rattle.theory.specs.Order.{InLabel, Included, Equivalent, ClassBelow, ClassName, Greatest}
use Rattle.theory.proofs.Flows.{flow_reflexive, flow_transitive}
use Rattle.theory.proofs.Orders.{theorem_1, isolated, class_named_once, class_antisymmetric, class_transitive, flows_by_class, labels_by_class, equivalent_self}
use Rattle.theory.proofs.ANetwork.{Hop, to_2, to_3, same_class, named, out_of_4, into_4}

-- met by 0 and 3, by theorem 1 of document 000 from flow to class and from class to label: 0's label is included in 3's
entity_0_to_3_by_labels : Included 5 (Flow Hop) 0 3
entity_0_to_3_by_labels = (theorem_1 5 Hop 0 3 (lit< tt) (lit< tt)).to_label ((theorem_1 5 Hop 0 3 (lit< tt) (lit< tt)).to_class to_3)

one_name : {a : ℕ} → ClassName 5 (Flow Hop) 2 a → 2 ≡ a
one_name c = class_named_once flow_reflexive flow_transitive same_class named c

-- met by 2 and 3, whose classes are below each other: they are one class
entity_2_and_3_by_class : Equivalent (Flow Hop) 3 2
entity_2_and_3_by_class =
    class_antisymmetric flow_reflexive flow_transitive (lit< tt) (lit< tt)
    ((theorem_1 5 Hop 3 2 (lit< tt) (lit< tt)).to_class same_class.there) ((theorem_1 5 Hop 2 3 (lit< tt) (lit< tt)).to_class same_class.back)

-- met by 0, 2 and 3: 0's class is below 2's, and that is below 3's
entity_0_below_3_by_class : ClassBelow 5 (Flow Hop) 0 3
entity_0_below_3_by_class =
    class_transitive flow_reflexive flow_transitive (lit< tt) (lit< tt) (lit< tt) ((theorem_1 5 Hop 0 2 (lit< tt) (lit< tt)).to_class to_2)
    ((theorem_1 5 Hop 2 3 (lit< tt) (lit< tt)).to_class same_class.back)

-- met by 3 and 2, which are equivalent: 0 flows to 3, and so to 2
entity_0_to_2_by_class : Flow Hop 0 2
entity_0_to_2_by_class = flows_by_class flow_reflexive flow_transitive (equivalent_self flow_reflexive flow_transitive 0) same_class to_3

-- met by the same two: 0 is in the label of 3, and so in that of 2
entity_0_in_both_labels : InLabel (Flow Hop) 2 0
entity_0_in_both_labels = (labels_by_class flow_reflexive flow_transitive same_class 0).0 to_3

-- met by 4, which no channel leaves or enters: "An isolated entity has both"
both_flags_by_law : Greatest 5 (Flow Hop) 4 3
both_flags_by_law = isolated out_of_4 into_4
