pub mod TowerLaws
