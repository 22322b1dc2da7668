-- Executable versions of the relations, and the worked points.
pub mod Computed
pub mod ComputedSheet
pub mod ComputedQuestions
pub mod Table
pub mod WorkedOutput
pub mod RoleOfNobody
