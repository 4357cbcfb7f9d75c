pub mod Keys
pub mod RuleText
pub mod MoveText
